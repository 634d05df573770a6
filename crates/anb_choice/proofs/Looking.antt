-- The tokens that are looked at, one after another.
use Rattle.std.proofs.Common.{◌≡◌, ◌⊎◌, inl, inr, ℕ, ◌+◌, ◌-◌, ◌<◌, ◌≤◌, List, [], ◌∷◌, ◌++◌, length, take, drop, Bool, true, false, Option, Some, None, refl, sym, ap, subst, ◌∙◌, arith, cond, append_assoc, length-drop}
use Rattle.std.proofs.lemmas.List.{drop-drop, drop_all}
use Rattle.std.specs.Str.{bytes_eq}
use Rattle.anb_syntax.specs.Words.{Word, end, bad, Tok, actions_word, choice_word, goals_word, is_name}
use Rattle.anb_syntax.specs.Lexing.{gap_len, token_here, Lexes, LexesHere}
use Rattle.anb_syntax.specs.Grammar as grammar
use Rattle.anb_syntax.specs.Text.{Text}
use Rattle.anb_syntax.specs.Views.{tok_of, word_of}
use Rattle.anb_syntax.specs.Nexts.{IsNext}
use Rattle.anb_syntax.specs.declared.tokens.Token.{Token}
use Rattle.anb_syntax.specs.declared.tokens.TokenKind.{TokenKind}
use Rattle.anb_syntax.specs.declared.tokens.TokenKind.TheVariants as tokens
use Rattle.anb_syntax.specs.declared.tokens.Next.TheVariants as next
use Rattle.anb_read.specs.Laws.{EachIsEither}
use Rattle.anb_read.specs.Refusals.{IsRefusal}
use Rattle.anb_read.specs.declared.refusal.ReadNo.{ReadNo}
use Rattle.anb_choice.specs.declared.marks.Kind.{Kind}
use Rattle.anb_choice.specs.declared.marks.Kind.TheVariants.{Choice, Actions, Name, Other, Stop, Bad}
use Rattle.anb_choice.specs.declared.marks.Mark.{Mark}
use Rattle.anb_choice.specs.Order.{AreMarks, ends_looking, kind_of, len_of, looked, mark_of, word_kind}
use Rattle.anb_choice.specs.Standing.{IsWithin}

-- ---- each text has tokens

pub some_tokens : EachIsEither → (x : List ℕ) → (ts : List Tok) × Lexes 0 x ts
some_tokens law x = by (law x) where
  by : ((n : grammar.Narration) × Text n x) ⊎ ((why : ReadNo) × IsRefusal x why) → (ts : List Tok) × Lexes 0 x ts
  by (inl t) = (t.1.tokens, t.1.lexes)
  by (inr r) = (r.1.cause.tokens, r.1.cause.lexes)

-- ---- what a list of tokens begins with

of_some : (Others : ℕ → Type 0) (last : Type 0) (x : List ℕ) (o : Option (Word × ℕ)) (w : Word) (t : Word × ℕ) → o ≡ Some t → LexesHere Others last x o w → (w ≡ t.0) × Others t.1
of_some Others last [] None w t e h = cc
of_some Others last (b ∷ x) None w t e h = cc
of_some Others last [] (Some u) w t e h = let s : u ≡ t = cc in (h.0 ∙ ap (λ (v : Word × ℕ). v.0) s, subst (λ (v : Word × ℕ). Others v.1) s h.1)
of_some Others last (b ∷ x) (Some u) w t e h = let s : u ≡ t = cc in (h.0 ∙ ap (λ (v : Word × ℕ). v.0) s, subst (λ (v : Word × ℕ). Others v.1) s h.1)

of_end : (Others : ℕ → Type 0) (last : Type 0) (x : List ℕ) (w : Word) → x ≡ [] → LexesHere Others last x (token_here x) w → w ≡ end
of_end Others last [] w e h = h.0
of_end Others last (b ∷ x) w e h = cc

of_bad : (Others : ℕ → Type 0) (last : Type 0) (x : List ℕ) (o : Option (Word × ℕ)) (w : Word) → 0 < length x → o ≡ None → LexesHere Others last x o w → w ≡ bad
of_bad Others last [] o w lt e h = absurd (omega (arith, lt))
of_bad Others last (b ∷ x) None w lt e h = h.0
of_bad Others last (b ∷ x) (Some u) w lt e h = cc

module _ (x : List ℕ) (from : ℕ) where
  behind : drop (gap_len (drop from x)) (drop from x) ≡ drop (from + gap_len (drop from x)) x
  behind = drop-drop (gap_len (drop from x)) from x

  -- this token, and then others
  pub begins_token : (t : Token) (us : List Tok) → IsNext x from (next.Token t) → Lexes from (drop from x) us
      → (u : Tok) × (rest : List Tok) × (us ≡ u ∷ rest) × (u.word ≡ (tok_of x t).word) × (u.at ≡ t.at) × Lexes (t.at + t.len) (drop (t.at + t.len) x) rest
  begins_token t [] i l = absurd l
  begins_token t (u ∷ rest) i l =
      let y = drop (gap_len (drop from x)) (drop from x) in
      let same : y ≡ drop t.at x = behind ∙ ap (λ k. drop k x) (sym i.0) in
      let P : ℕ → Type 0 = λ k. Lexes (k + t.len) (drop t.len y) rest in
      let Q : List ℕ → Type 0 = λ z. Lexes (t.at + t.len) z rest in
      let left : drop t.len y ≡ drop (t.at + t.len) x = ap (drop t.len) same ∙ drop-drop t.len t.at x in
      let r = of_some (λ n. Lexes (from + gap_len (drop from x) + n) (drop n y) rest) (rest ≡ []) y (token_here y) u.word ((tok_of x t).word, t.len) (ap token_here same ∙ i.1) l.1 in
      (u, rest, refl, r.0, l.0 ∙ sym i.0, subst Q left (subst P (sym i.0) r.1))

  -- the end
  pub begins_end : (us : List Tok) → IsNext x from next.End → Lexes from (drop from x) us → (u : Tok) × (rest : List Tok) × (us ≡ u ∷ rest) × (u.word ≡ end) × (u.at ≡ length x)
  begins_end [] i l = absurd l
  begins_end (u ∷ rest) i l =
      let y = drop (gap_len (drop from x)) (drop from x) in
      let none : y ≡ [] = behind ∙ drop_all (from + gap_len (drop from x)) x (omega (arith, i)) in
      (u, rest, refl, of_end (λ n. Lexes (from + gap_len (drop from x) + n) (drop n y) rest) (rest ≡ []) y u.word none l.1, l.0 ∙ i)

  -- no token
  pub begins_bad : (at : ℕ) (us : List Tok) → IsNext x from (next.Bad at) → Lexes from (drop from x) us → (u : Tok) × (rest : List Tok) × (us ≡ u ∷ rest) × (u.word ≡ bad) × (u.at ≡ at)
  begins_bad at [] i l = absurd l
  begins_bad at (u ∷ rest) i l =
      let y = drop (gap_len (drop from x)) (drop from x) in
      let same : y ≡ drop at x = behind ∙ ap (λ k. drop k x) (sym i.0) in
      let within = i.1 in
      (u, rest, refl, of_bad (λ n. Lexes (from + gap_len (drop from x) + n) (drop n y) rest) (rest ≡ []) y (token_here y) u.word (omega (arith, ap length same, length-drop at x, within)) (ap token_here same ∙ i.2) l.1, l.0 ∙ sym i.0)

-- ---- what was looked at

-- these were looked at, and then those from this offset on
abbrev pub Gone : List ℕ → ℕ → List Mark → Type 0
Gone x from ms = (ts : List Tok) → Lexes 0 x ts → (us : List Tok) × Lexes from (drop from x) us × (looked x ts ≡ ms ++ looked x us)

-- a token's mark
same_mark : (x : List ℕ) (u : Tok) (w : Word) (at len : ℕ) → u.word ≡ w → u.at ≡ at → len_of (token_here (drop at x)) ≡ len
    → mark_of x u ≡ record { kind = kind_of w; at = at; past = at + len }
same_mark x u w at len word place size =
    ap (λ (v : Word). record { kind = kind_of v; at = u.at; past = u.at + len_of (token_here (drop u.at x)) }) word
    ∙ ap (λ (k : ℕ). record { kind = kind_of w; at = k; past = k + len_of (token_here (drop k x)) }) place
    ∙ ap (λ (n : ℕ). record { kind = kind_of w; at = at; past = at + n }) size

module _ (x : List ℕ) (from : ℕ) (ms : List Mark) (gone : Gone x from ms) where
  goes : (m : Mark) (u : Tok) (ts us rest : List Tok) → looked x ts ≡ ms ++ looked x us → us ≡ u ∷ rest → mark_of x u ≡ m → looked x ts ≡ ms ++ m ∷ cond (ends_looking (kind_of u.word)) [] (looked x rest)
  goes m u ts us rest are is same = are ∙ ap (λ (l : List Tok). ms ++ looked x l) is ∙ ap (λ (n : Mark). ms ++ n ∷ cond (ends_looking (kind_of u.word)) [] (looked x rest)) same

  -- one token more
  pub gone_token : (t : Token) → IsNext x from (next.Token t) → ends_looking (kind_of (tok_of x t).word) ≡ false
      → Gone x (t.at + t.len) (ms ++ record { kind = kind_of (tok_of x t).word; at = t.at; past = t.at + t.len } ∷ [])
  gone_token t i on = λ ts l.
      let g = gone ts l in
      let b = begins_token x from t g.0 i g.1 in
      let m : Mark = record { kind = kind_of (tok_of x t).word; at = t.at; past = t.at + t.len } in
      let same = same_mark x b.0 (tok_of x t).word t.at t.len b.3 b.4 (ap len_of i.1) in
      let more : looked x ts ≡ ms ++ m ∷ looked x b.1 = goes m b.0 ts g.0 b.1 g.2 b.2 same ∙ ap (λ (w : Word). ms ++ m ∷ cond (ends_looking (kind_of w)) [] (looked x b.1)) b.3 ∙ ap (λ c. ms ++ m ∷ cond c [] (looked x b.1)) on in
      (b.1, b.5, more ∙ sym (append_assoc ms (m ∷ []) (looked x b.1)))

  ends : EachIsEither → (m : Mark) → ((us : List Tok) → Lexes from (drop from x) us → (u : Tok) × (rest : List Tok) × (us ≡ u ∷ rest) × (mark_of x u ≡ m) × (ends_looking (kind_of u.word) ≡ true)) → AreMarks x (ms ++ m ∷ [])
  ends law m last =
      let some = some_tokens law x in
      let g = gone some.0 some.1 in
      let b = last g.0 g.1 in
      record {
        tokens = some.0;
        lexes = some.1;
        are = sym (goes m b.0 some.0 g.0 b.1 g.2 b.2 b.3 ∙ ap (λ c. ms ++ m ∷ cond c [] (looked x b.1)) b.4);
      }

  -- goals are the last
  pub ends_token : EachIsEither → (t : Token) → IsNext x from (next.Token t) → ends_looking (kind_of (tok_of x t).word) ≡ true
      → AreMarks x (ms ++ record { kind = kind_of (tok_of x t).word; at = t.at; past = t.at + t.len } ∷ [])
  ends_token law t i off = ends law (record { kind = kind_of (tok_of x t).word; at = t.at; past = t.at + t.len }) (λ us l.
      let b = begins_token x from t us i l in
      (b.0, b.1, b.2, same_mark x b.0 (tok_of x t).word t.at t.len b.3 b.4 (ap len_of i.1), ap (λ (w : Word). ends_looking (kind_of w)) b.3 ∙ off))

  nothing : (n : ℕ) → length x ≤ n → len_of (token_here (drop n x)) ≡ 0
  nothing n h = ap (λ (z : List ℕ). len_of (token_here z)) (drop_all n x h)

  abbrev mark : Kind → ℕ → ℕ → Mark
  mark k at past = record { kind = k; at = at; past = past }

  plain : (k : Kind) (at : ℕ) → mark k at (at + 0) ≡ mark k at at
  plain k at = let same : at + 0 ≡ at = omega arith in ap (mark k at) same

  -- the end is
  pub ends_end : EachIsEither → IsNext x from next.End → AreMarks x (ms ++ record { kind = Stop; at = length x; past = length x } ∷ [])
  ends_end law i = ends law (record { kind = Stop; at = length x; past = length x }) (λ us l.
      let b = begins_end x from us i l in
      (b.0, b.1, b.2, same_mark x b.0 end (length x) 0 b.3 b.4 (nothing (length x) (omega arith)) ∙ plain Stop (length x), ap (λ (w : Word). ends_looking (kind_of w)) b.3))

  -- a place where no token begins is
  pub ends_bad : EachIsEither → (at : ℕ) → IsNext x from (next.Bad at) → AreMarks x (ms ++ record { kind = Bad; at = at; past = at } ∷ [])
  ends_bad law at i = ends law (record { kind = Bad; at = at; past = at }) (λ us l.
      let b = begins_bad x from at us i l in
      (b.0, b.1, b.2, same_mark x b.0 bad at 0 b.3 b.4 (ap len_of i.2) ∙ plain Bad at, ap (λ (w : Word). ends_looking (kind_of w)) b.3))

-- ---- where they stand

word_name : (b : List ℕ) → word_kind b ≡ Name → is_name b ≡ true
word_name b e = by (bytes_eq choice_word b) (bytes_eq actions_word b) (bytes_eq goals_word b) (is_name b) e where
  by : (c a g n : Bool) → cond c Choice (cond a Actions (cond g Stop (cond n Name Other))) ≡ Name → n ≡ true
  by true a g n f = cc
  by false true g n f = cc
  by false false true n f = cc
  by false false false true f = refl
  by false false false false f = cc

token_name : (k : TokenKind) (len : ℕ) (y : List ℕ) → kind_of (word_of k len y) ≡ Name → is_name (take len y) ≡ true
token_name tokens.Name len y e = word_name (take len y) e
token_name tokens.Literal len y e = cc
token_name tokens.Colon len y e = cc
token_name tokens.Semicolon len y e = cc
token_name tokens.Comma len y e = cc
token_name tokens.Open len y e = cc
token_name tokens.Close len y e = cc
token_name tokens.Equals len y e = cc
token_name tokens.Arrow len y e = cc

pub token_within : (x : List ℕ) (from : ℕ) (t : Token) → IsNext x from (next.Token t) → 0 < t.len → t.at + t.len ≤ length x
    → IsWithin x from (record { kind = kind_of (tok_of x t).word; at = t.at; past = t.at + t.len })
token_within x from t i some within =
    let at = i.0 in
    let back : t.at + t.len - t.at ≡ t.len = omega arith in
    record {
      low = omega (arith, at);
      bytes = omega arith;
      high = within;
      some = λ _. omega (arith, some);
      name = λ e. ap (λ (n : ℕ). is_name (take n (drop t.at x))) back ∙ token_name t.kind t.len (drop t.at x) e;
    }

pub end_within : (x : List ℕ) (from : ℕ) → from ≤ length x → IsWithin x from (record { kind = Stop; at = length x; past = length x })
end_within x from h = record { low = h; bytes = omega arith; high = omega arith; some = λ e. cc; name = λ e. cc }

pub bad_within : (x : List ℕ) (from at : ℕ) → IsNext x from (next.Bad at) → IsWithin x from (record { kind = Bad; at = at; past = at })
bad_within x from at i = let place = i.0 in let within = i.1 in record { low = omega (arith, place); bytes = omega arith; high = omega (arith, within); some = λ e. cc; name = λ e. cc }
