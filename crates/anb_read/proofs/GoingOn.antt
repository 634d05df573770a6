-- What the reader finds out about the words that it expects.
use Rattle.std.proofs.Common.{◌≡◌, ℕ, ◌+◌, ◌<◌, ◌≤◌, List, [], ◌∷◌, ◌++◌, length, take, drop, get_or, Bool, true, false, Result, Ok, Err, refl, sym, ap, ◌∙◌, subst, inl, inr, arith, append_assoc, length-append, rules}
use Rattle.std.specs.Prelude.{nat_lt, not, ◌&&◌}
use Rattle.std.specs.List.{prefix_len}
use Rattle.std.proofs.lemmas.List.{take-map, take_more}
use Rattle.std.proofs.lemmas.List.Sums.{prefix_len-drop_yes, prefix_len-drop_no, prefix_len-drop_all}
use Rattle.anb_lemmas.proofs.Numbers.{is_below, isnt_below}
use Rattle.anb_syntax.specs.Words.{Word, Tok, head, Begins}
use Rattle.anb_syntax.specs.Lexing.{Lexes}
use Rattle.anb_syntax.specs.Grammar.{Written, spell}
use Rattle.anb_syntax.specs.Text.{Continues, IsViable}
use Rattle.anb_syntax.proofs.Unique.{lexes_once}
use Rattle.anb_read.specs.declared.grammar.GrammarWord.{GrammarWord}
use Rattle.anb_read.specs.declared.grammar.GrammarWord.TheVariants as words
use Rattle.anb_read.specs.declared.refusal.ReadNo.{ReadNo}
use Rattle.anb_read.specs.Expected.{word_of, grammar_words, is_name_too, IsBefore, Chosen, Expects, AreExpected}
use Rattle.anb_read.specs.Expecting.{is_earlier, before, passes, given, goes_on, expects}
use Rattle.anb_read.specs.Places.{tok_of, toks}
use Rattle.anb_read.specs.declared.places.Place.{Place}
use Rattle.anb_read.specs.declared.places.Place.TheVariants as places
use Rattle.anb_read.specs.Productions.{is_bad, fault, narration_at}
use Rattle.anb_read.specs.Refusals.{offset, IsRefusal}
use Rattle.anb_read.proofs.Answering.{Here, above, here, first_here, first_of}
use Rattle.anb_read.proofs.Begins.{begins_joined, begins_length, begins_split}
use Rattle.anb_read.proofs.Exact.{IsRefusedAs, IsRefused, compared, next_in, rest_in, same_cut, viable_as, ok_is, is_ok, err_is}
use Rattle.anb_read.proofs.Offsets.{increasing}

-- ---- those that something holds of

module _ {X : Type 0} (P : X → Type 0) where
  pub chosen_yes : (xs chosen : List X) (x : X) → Chosen P xs chosen → P x → Chosen P (xs ++ x ∷ []) (chosen ++ x ∷ [])
  chosen_yes [] chosen x h p = inl (p, ([], ap (λ (l : List X). l ++ x ∷ []) h, refl))
  chosen_yes (y ∷ xs) chosen x (inl h) p = inl (h.0, (h.1.0 ++ x ∷ [], ap (λ (l : List X). l ++ x ∷ []) h.1.1, chosen_yes xs h.1.0 x h.1.2 p))
  chosen_yes (y ∷ xs) chosen x (inr h) p = inr (h.0, chosen_yes xs chosen x h.1 p)

  pub chosen_no : (xs chosen : List X) (x : X) → Chosen P xs chosen → (P x → ⊥) → Chosen P (xs ++ x ∷ []) chosen
  chosen_no [] chosen x h none = inr (none, h)
  chosen_no (y ∷ xs) chosen x (inl h) none = inl (h.0, (h.1.0, h.1.1, chosen_no xs h.1.0 x h.1.2 none))
  chosen_no (y ∷ xs) chosen x (inr h) none = inr (h.0, chosen_no xs chosen x h.1 none)

  pub chosen_once : (xs chosen others : List X) → Chosen P xs chosen → Chosen P xs others → chosen ≡ others
  chosen_once [] chosen others h k = h ∙ sym k
  chosen_once (y ∷ xs) chosen others (inl h) (inl k) = h.1.1 ∙ ap (λ (l : List X). y ∷ l) (chosen_once xs h.1.0 k.1.0 h.1.2 k.1.2) ∙ sym k.1.1
  chosen_once (y ∷ xs) chosen others (inl h) (inr k) = absurd (k.0 h.0)
  chosen_once (y ∷ xs) chosen others (inr h) (inl k) = absurd (h.0 k.0)
  chosen_once (y ∷ xs) chosen others (inr h) (inr k) = chosen_once xs chosen others h.1 k.1

-- ---- the tokens before an offset

not_earlier : (n : ℕ) → nat_lt n n ≡ false
not_earlier n = search rules

module _ (x : List ℕ) (all : List Tok) (l : Lexes 0 x all) where
  counts : (pre : List Word) (ts : List Tok) (front : List Word) (next : Tok) (others : List Tok) → Begins all pre ts → Begins ts front (next ∷ others) → prefix_len (is_earlier next.at) ts ≡ length front
  counts pre ts [] next others g h = rw (h, not_earlier next.at) refl
  counts pre [] (y ∷ front) next others g h = absurd h
  counts pre (t ∷ ts) (y ∷ front) next others g h =
      let lt = increasing 0 x all pre (pre ++ y ∷ front) t next ts others l g (begins_joined all pre (y ∷ front) (t ∷ ts) (next ∷ others) g h) (omega (arith, length-append pre (y ∷ front))) in
      let e = counts (pre ++ y ∷ []) ts front next others (begins_joined all pre (y ∷ []) (t ∷ ts) ts g (h.0, refl)) h.1 in
      rw (is_below t.at next.at lt) (omega (arith, e))

cut : (ts : List Tok) (front : List Word) (rest z : List Tok) → Begins ts front rest → Begins (take (length front) ts ++ z) front z
cut ts [] rest z g = refl
cut [] (y ∷ front) rest z g = absurd g
cut (t ∷ ts) (y ∷ front) rest z g = (g.0, cut ts front rest z g.1)

abbrev pub begins_before : ℕ → Place → Bool
begins_before at p = is_earlier at (tok_of [] p)

same_at : (text : List ℕ) (p : Place) → (tok_of text p).at ≡ (tok_of [] p).at
same_at text (places.At t) = refl
same_at text (places.End at) = refl
same_at text (places.Bad at) = refl
same_at text (places.Given g) = refl

-- places and their tokens
pub same_count : (text : List ℕ) (at : ℕ) (ps : List Place) → prefix_len (is_earlier at) (toks text ps) ≡ prefix_len (begins_before at) ps
same_count text at [] = refl
same_count text at (p ∷ ps) = rw (same_at text p, same_count text at ps) refl

pub counted : (at : ℕ) (ps : List Place) (n : ℕ) (d : Place) (m : ℕ) → n < length ps → m ≡ (tok_of [] (get_or ps n d)).at → m < at → prefix_len (begins_before at) ps ≡ n + prefix_len (begins_before at) (drop n ps)
    → prefix_len (begins_before at) ps ≡ n + 1 + prefix_len (begins_before at) (drop (n + 1) ps)
counted at ps n d m within is lt h =
    let e = prefix_len-drop_yes (begins_before at) ps n d within (rw (← is) (is_below m at lt)) in
    omega (arith, h, e)

pub stopped : (at : ℕ) (ps : List Place) (n : ℕ) (d : Place) (m : ℕ) → n < length ps → m ≡ (tok_of [] (get_or ps n d)).at → at ≤ m → prefix_len (begins_before at) ps ≡ n + prefix_len (begins_before at) (drop n ps)
    → prefix_len (begins_before at) ps ≡ n
stopped at ps n d m within is le h =
    let e = prefix_len-drop_no (begins_before at) ps n d within (rw (← is) (isnt_below m at le)) in
    omega (arith, h, e)

pub all_passed : (at : ℕ) (ps : List Place) (n : ℕ) → length ps ≤ n → prefix_len (begins_before at) ps ≡ n + prefix_len (begins_before at) (drop n ps) → prefix_len (begins_before at) ps ≡ n
all_passed at ps n le h = let e = prefix_len-drop_all (begins_before at) ps n le in omega (arith, h, e)

pub before_is : (text : List ℕ) (at : ℕ) (ps : List Place) (n : ℕ) → prefix_len (begins_before at) ps ≡ n → toks text (take n ps) ≡ before at (toks text ps)
before_is text at ps n e = sym (take-map (tok_of text) n ps) ∙ ap (λ k. take k (toks text ps)) (sym e ∙ sym (same_count text at ps))

-- ---- a word behind them

abbrev pub Decided : Bool → Type 0 → Type 0
Decided true P = P
Decided false P = P → ⊥

-- a refusal stands behind the word
abbrev behind_it : ReadNo → Bool
behind_it e = passes {A = Written × List Tok} (Err e)

one_left : (y : Word) (rest : List Tok) → length rest ≡ 0 → rest ≡ []
one_left y [] e = refl
one_left y (t ∷ ts) e = absurd (omega (arith, e))

module _ (x : List ℕ) (ts : List Tok) (l : Lexes 0 x ts) (why : ReadNo) (r : IsRefusal x why) (front : List Word) (next : Tok) (others : List Tok) (g : Begins ts front (next ∷ others)) (at : next.at ≡ offset why) where
  i : Here x ts l why
  i = here x ts l why r.cause

  as_long : length front ≡ length i.front
  as_long = elim (compared (length front) (length i.front)) [
    | inl le ↦ elim (compared (length i.front) (length front)) [
      | inl ge ↦ omega arith
      | inr lt ↦ absurd (omega (arith, at, i.at, increasing 0 x ts front i.front next i.next others i.others l g i.refused.begins lt))
    ]
    | inr lt ↦ absurd (omega (arith, at, i.at, increasing 0 x ts i.front front i.next next i.others others l i.refused.begins g lt))
  ]

  viable : IsViable front
  viable = subst IsViable (sym (same_cut front i.front ts (next ∷ others) (i.next ∷ i.others) g i.refused.begins as_long).0) (viable_as 64 i.deep i.front i.next.word i.refused.why)

  module _ (y : Word) (good : is_bad y ≡ false) where
    abbrev tried : List Tok
    tried = take (length front) ts ++ given y ∷ []

    begun : Begins tried front (given y ∷ [])
    begun = cut ts front (next ∷ others) (given y ∷ []) g

    not_before : (d : Bool) (f : List Word) (rest : List Tok) → IsRefused 64 d tried f rest → length front ≤ length f
    not_before d f rest k = elim (compared (length front) (length f)) [
      | inl le ↦ le
      | inr lt ↦
          let n = next_in f front tried rest (given y ∷ []) k.begins begun lt in
          let P : List Word → Type 0 = λ ws. Begins ts ws (next ∷ others) in
          let s = begins_split ts f (head rest ∷ n.0) (next ∷ others) (subst P n.1 g) in
          let Q : Word → Type 0 = λ w. IsRefusedAs 64 d f w in
          let same = same_head s.0 (head rest) n.0 (next ∷ others) s.2 in
          let le = (first_here x ts l why r i).first d f s.0 (record { begins = s.1; why = subst Q (sym same) k.why }) in
          absurd (omega (arith, le, as_long, lt))
    ]
      where
        same_head : (m : List Tok) (w : Word) (c : List Word) (rest : List Tok) → Begins m (w ∷ c) rest → head m ≡ w
        same_head [] w c rest h = absurd h
        same_head (t ∷ m) w c rest h = h.0

    read_on : (n : Written) (rest : List Tok) → narration_at 64 tried ≡ Ok (n, rest) → Continues front y
    read_on n rest e =
        let k = ok_is 64 above tried n rest e in
        elim (compared (length (spell n)) (length front)) [
          | inl le ↦
              let c = rest_in (spell n) front tried rest (given y ∷ []) k.begins begun le in
              let P : List Word → Type 0 = λ ws. Begins ts ws (next ∷ others) in
              let s = begins_split ts (spell n) c.0 (next ∷ others) (subst P c.1 g) in
              absurd (cc (is_ok 64 above ts n s.0 (record { valid = k.valid; fit = k.fit; begins = s.1 }), first_of x ts l why r))
          | inr lt ↦
              let c = next_in front (spell n) tried (given y ∷ []) rest begun k.begins lt in
              record { written = n; valid = k.valid; more = c.0; completes = c.1 }
        ]

    behind : (f c : List Word) → f ≡ front ++ y ∷ c → IsViable f → Continues front y
    behind f c e v = record { written = v.1.written; valid = v.1.valid; more = c ++ v.0 ∷ v.1.more; completes = v.1.completes ∙ ap (λ (ws : List Word). ws ++ v.0 ∷ v.1.more) e ∙ append_assoc front (y ∷ c) (v.0 ∷ v.1.more) }

    nothing_left : (d : Bool) → behind_it (fault d []) ≡ true
    nothing_left true = refl
    nothing_left false = refl

    at_word : (d : Bool) → IsRefusedAs 64 d front y → (b : Bool) → b ≡ behind_it (fault d (given y ∷ [])) → Decided b (Continues front y)
    at_word true h true e = h.0
    at_word true h false e = cc e
    at_word false h true e = let k : true ≡ false = rw good at e in cc k
    at_word false h false e = h.1

    refused_on : (f : ReadNo) → narration_at 64 tried ≡ Err f → (b : Bool) → b ≡ behind_it f → Decided b (Continues front y)
    refused_on f e b h =
        let k = err_is 64 above tried f e in
        let ge = not_before k.0 k.1 k.2 k.3.refused in
        let long = begins_length tried k.1 k.2 k.3.refused.begins in
        let short = begins_length tried front (given y ∷ []) begun in
        elim (compared (length k.1) (length front)) [
          | inl le ↦
              let s = same_cut front k.1 tried (given y ∷ []) k.2 begun k.3.refused.begins (omega arith) in
              let Q : List Word → Type 0 = λ ws. IsRefusedAs 64 k.0 ws (head k.2) in
              let R : List Tok → Type 0 = λ us. IsRefusedAs 64 k.0 front (head us) in
              at_word k.0 (subst R (sym s.1) (subst Q (sym s.0) k.3.refused.why)) b (h ∙ ap (λ (z : ReadNo). behind_it z) (k.4 ∙ ap (fault k.0) (sym s.1)))
          | inr lt ↦
              let c = next_in front k.1 tried (given y ∷ []) k.2 begun k.3.refused.begins lt in
              let none = one_left y k.2 (omega (arith, long, short, lt)) in
              let yes : b ≡ true = h ∙ ap (λ (z : ReadNo). behind_it z) (k.4 ∙ ap (fault k.0) none) ∙ nothing_left k.0 in
              subst (λ (z : Bool). Decided z (Continues front y)) (sym yes) (behind k.1 c.0 c.1 (viable_as 64 k.0 k.1 (head k.2) k.3.refused.why))
        ]

    by_result : (out : Result (Written × List Tok) ReadNo) → narration_at 64 tried ≡ out → (b : Bool) → b ≡ passes out → Decided b (Continues front y)
    by_result (Ok (n, rest)) e true h = read_on n rest e
    by_result (Ok (n, rest)) e false h = cc h
    by_result (Err f) e b h = refused_on f e b h

  -- what the reader says of a word is right
  pub decided : (y : Word) → is_bad y ≡ false → (b : Bool) → b ≡ goes_on (before (offset why) ts) y → Decided b (Continues front y)
  decided y good b h =
      let same : before (offset why) ts ≡ take (length front) ts = ap (λ n. take n ts) (ap (λ n. prefix_len (is_earlier n) ts) (sym at) ∙ counts x ts l [] ts front next others refl g) in
      by_result y good (narration_at 64 (take (length front) ts ++ given y ∷ [])) refl b (h ∙ ap (λ (ws : List Tok). goes_on ws y) same)

pub word_good : (w : GrammarWord) → is_bad (word_of w) ≡ false
word_good words.Protocol = refl
word_good words.Suite = refl
word_good words.Sha256 = refl
word_good words.Sha512 = refl
word_good words.Agent = refl
word_good words.Number = refl
word_good words.Key = refl
word_good words.Name = refl
word_good words.Hash = refl
word_good words.Mac = refl
word_good words.Seal = refl
word_good words.Wrap = refl
word_good words.Literal = refl
word_good words.Len = refl
word_good words.Net = refl
word_good words.Hex = refl
word_good words.Rest = refl
word_good words.Colon = refl
word_good words.Equals = refl
word_good words.Arrow = refl
word_good words.Open = refl
word_good words.Comma = refl
word_good words.Close = refl
word_good words.Semicolon = refl
word_good words.Types = refl
word_good words.Formats = refl
word_good words.Knowledge = refl
word_good words.Actions = refl
word_good words.Goals = refl
word_good words.End = refl

-- what was answered of these words
abbrev pub Answered : List Tok → List GrammarWord → List GrammarWord → Type 0
Answered ts all words = Chosen (λ g. expects ts g ≡ true) all words

module _ (ts : List Tok) (all words : List GrammarWord) (n : ℕ) (d : GrammarWord) (within : n < length all) (b : Bool) (is : b ≡ expects ts (get_or all n d)) (so_far : Answered ts (take n all) words) where
  pub answered_yes : b ≡ true → (now : List GrammarWord) → now ≡ words ++ get_or all n d ∷ [] → Answered ts (take (n + 1) all) now
  answered_yes e now h = rw (h, take_more all n d within) (chosen_yes (λ g. expects ts g ≡ true) (take n all) words (get_or all n d) so_far (sym is ∙ e))

  pub answered_no : b ≡ false → Answered ts (take (n + 1) all) words
  answered_no e = rw (take_more all n d within) (chosen_no (λ g. expects ts g ≡ true) (take n all) words (get_or all n d) so_far (λ yes. cc (sym is ∙ e, yes)))

chosen_as : {X : Type 0} (P Q : X → Type 0) (xs chosen : List X) → ((x : X) → P x → Q x) → ((x : X) → (P x → ⊥) → Q x → ⊥) → Chosen P xs chosen → Chosen Q xs chosen
chosen_as P Q [] chosen f g h = h
chosen_as P Q (x ∷ xs) chosen f g (inl h) = inl (f x h.0, (h.1.0, h.1.1, chosen_as P Q xs h.1.0 f g h.1.2))
chosen_as P Q (x ∷ xs) chosen f g (inr h) = inr (g x h.0, chosen_as P Q xs chosen f g h.1)

-- what is answered of a word and of names tells whether it is expected
module _ (ts : List Tok) (front : List Word) (says : (g : GrammarWord) (b : Bool) → b ≡ goes_on ts (word_of g) → Decided b (Continues front (word_of g))) (g : GrammarWord) where
  yes_expected : (too named on : Bool) → is_name_too g ≡ too → named ≡ goes_on ts (word_of words.Name) → on ≡ goes_on ts (word_of g) → (not (too && named) && on) ≡ true → Expects front g
  yes_expected false named true e h k is = (says g true k, λ i. cc (e, i))
  yes_expected true false true e h k is = (says g true k, λ i c. says words.Name false h c)
  yes_expected false named false e h k is = cc is
  yes_expected true false false e h k is = cc is
  yes_expected true true on e h k is = cc is

  not_expected : (too named on : Bool) → is_name_too g ≡ too → named ≡ goes_on ts (word_of words.Name) → on ≡ goes_on ts (word_of g) → ((not (too && named) && on) ≡ true → ⊥) → Expects front g → ⊥
  not_expected false named true e h k is x = is refl
  not_expected true false true e h k is x = is refl
  not_expected too named false e h k is x = says g false k x.0
  not_expected true true true e h k is x = x.1 e (says words.Name true h)

-- what was answered of all words is what is expected
pub all_answered : (x : List ℕ) (ts : List Tok) → Lexes 0 x ts → (why : ReadNo) → IsRefusal x why → (words : List GrammarWord) → Answered (before (offset why) ts) grammar_words words → AreExpected x why words
all_answered x ts l why r chosen h =
    let i = here x ts l why r.cause in
    let at : i.next.at ≡ offset why = sym i.at in
    let w = before (offset why) ts in
    let says : (g : GrammarWord) (b : Bool) → b ≡ goes_on w (word_of g) → Decided b (Continues i.front (word_of g))
    = λ g. decided x ts l why r i.front i.next i.others i.refused.begins at (word_of g) (word_good g) in
    record {
      front = i.front;
      before = record { tokens = ts; lexes = l; next = i.next; others = i.others; begins = i.refused.begins; stands = at };
      chosen = chosen_as (λ g. expects w g ≡ true) (Expects i.front) grammar_words chosen
          (λ g. yes_expected w i.front says g (is_name_too g) (goes_on w (word_of words.Name)) (goes_on w (word_of g)) refl refl refl)
          (λ g. not_expected w i.front says g (is_name_too g) (goes_on w (word_of words.Name)) (goes_on w (word_of g)) refl refl refl)
          h;
    }

-- ---- the law

module _ (x : List ℕ) (at : ℕ) (front other : List Word) (b : IsBefore x at front) (c : IsBefore x at other) where
  pub one_front : front ≡ other
  one_front =
      let P : List Tok → Type 0 = λ us. Begins us other (c.next ∷ c.others) in
      let begins = subst P (lexes_once 0 x c.tokens b.tokens c.lexes b.lexes) c.begins in
      let isnt_below : (length front < length other) → ⊥ = λ lt. omega (arith, b.stands, c.stands, increasing 0 x b.tokens front other b.next c.next b.others c.others b.lexes b.begins begins lt) in
      let not_more : (length other < length front) → ⊥ = λ lt. omega (arith, b.stands, c.stands, increasing 0 x b.tokens other front c.next b.next c.others b.others b.lexes begins b.begins lt) in
      elim (compared (length front) (length other)) [
        | inl le ↦ elim (compared (length other) (length front)) [
          | inl ge ↦ (same_cut front other b.tokens (b.next ∷ b.others) (c.next ∷ c.others) b.begins begins (omega arith)).0
          | inr lt ↦ absurd (isnt_below lt)
        ]
        | inr lt ↦ absurd (not_more lt)
      ]

pub expected_once : (x : List ℕ) (why : ReadNo) (chosen others : List GrammarWord) → AreExpected x why chosen → AreExpected x why others → chosen ≡ others
expected_once x why chosen others a b =
    let same = one_front x (offset why) a.front b.front a.before b.before in
    let P : List Word → Type 0 = λ f. Chosen (Expects f) grammar_words others in
    chosen_once (Expects a.front) grammar_words chosen others a.chosen (subst P (sym same) b.chosen)
