-- Terms of lines of knowledge, one after another.
use Rattle.std.proofs.Common.{◌≡◌, ◌≢◌, ℕ, ◌+◌, ◌-◌, ◌<◌, ◌≤◌, List, [], ◌∷◌, ◌++◌, length, drop, take, get_or, map, Bool, true, false, refl, ap, sym, ◌∙◌, arith, rules, length-drop}
use Rattle.std.specs.Prelude.{◌==◌, ◌&&◌, nat_eq, nat_lt, if◌then◌else◌}
use Rattle.std.specs.List.{starts_with}
use Rattle.std.proofs.Math.Seq.{drop-append_seam}
use Rattle.std.proofs.lemmas.Bool.Decides.{Decides-eqb}
use Rattle.std.proofs.lemmas.Slice.Eq.{starts_is}
use Rattle.std.proofs.lemmas.Bool.{lt-ltb, le-ltb}
use Rattle.std.proofs.lemmas.List.{drop_more, take_all}
use Rattle.anb_lemmas.proofs.Lists.{map_drop_next}
use Rattle.anb_syntax.specs.Grammar.{list_of}
use Rattle.anb_syntax.specs.Views.{know_of, tok_of}
use Rattle.anb_syntax.specs.Words.{Tok}
use Rattle.anb_syntax.specs.declared.narration.KnowItem.{KnowItem}
use Rattle.anb_syntax.specs.declared.tokens.Token.{Token}
use Rattle.anb_mistakes.specs.Spots.{a_line, depth_after, in_line, is_end, is_term, known, nth, parts, spelling, spells, term_spot, used}

-- ---- the next token of a term

word_on : (x word behind : List ℕ) → x ≡ word ++ behind → starts_with nat_eq x word ≡ true
word_on x word behind is = (starts_is Decides-eqb x word (starts_with nat_eq x word) refl).1 behind is

word_not : (x word : List ℕ) → ((rest : List ℕ) → x ≢ word ++ rest) → starts_with nat_eq x word ≡ false
word_not x word other = by (starts_with nat_eq x word) refl where
  by : (b : Bool) → starts_with nat_eq x word ≡ b → b ≡ false
  by false e = refl
  by true e = absurd (other (drop (length word) x) ((starts_is Decides-eqb x word (starts_with nat_eq x word) refl).0 e))

module _ (text : List ℕ) (all : List Token) (i : ℕ) (d : Token) (within : i < length all) (left : List ℕ) (some : (length left == 0) ≡ false) where
  abbrev t : Token
  t = get_or all i d

  abbrev word : List ℕ
  word = spelling (tok_of text t).word

  abbrev behind_it : List Tok
  behind_it = map (tok_of text) (drop (i + 1) all)

  first_word : spells left (map (tok_of text) (drop i all)) ≡ (starts_with nat_eq left word && spells (drop (length word) left) behind_it)
  first_word =
      ap (spells left) (ap (map (tok_of text)) (drop_more all i d within))
      ∙ ap (λ (z : Bool). if z then is_end (tok_of text t).word else (starts_with nat_eq left word && spells (drop (length word) left) behind_it)) some

  pub spelled_further : (behind : List ℕ) → left ≡ word ++ behind → spells behind behind_it ≡ spells left (map (tok_of text) (drop i all))
  spelled_further behind cut =
      let rest : drop (length word) left ≡ behind = ap (drop (length word)) cut ∙ drop-append_seam word behind in
      sym (first_word ∙ ap (λ (z : Bool). z && spells (drop (length word) left) behind_it) (word_on left word behind cut) ∙ ap (λ l. spells l behind_it) rest)

  pub spelled_not : ((rest : List ℕ) → left ≢ word ++ rest) → false ≡ spells left (map (tok_of text) (drop i all))
  spelled_not other = sym (first_word ∙ ap (λ (z : Bool). z && spells (drop (length word) left) behind_it) (word_not left word other))

-- ---- the next token of a line

module _ (text x : List ℕ) (all : List Token) (i : ℕ) (d : Token) (within : i < length all) (begins : Bool) (depth : ℕ) (found : Bool)
    (is : found ≡ (begins && is_term x (map (tok_of text) (take (length all - i) (drop i all))))) where
  abbrev u : Token
  u = get_or all i d

  from_here : drop i all ≡ u ∷ drop (i + 1) all
  from_here = drop_more all i d within

  abbrev rest : List Tok
  rest = map (tok_of text) (drop (i + 1) all)

  seen : found ≡ (begins && is_term x (tok_of text u ∷ rest))
  seen = is ∙ ap (λ (ts : List Token). begins && is_term x (map (tok_of text) ts)) (take_all (length all - i) (drop i all) (omega (arith, length-drop i all)) ∙ from_here)

  abbrev next : ℕ → List Tok
  next k = known x k (parts depth (tok_of text u).word) (depth_after depth (tok_of text u).word) rest

  not_here : found ≡ false → (k : ℕ) → next k ≡ known x k begins depth (map (tok_of text) (drop i all))
  not_here e k = rw (from_here, sym seen ∙ e) refl

  one_here : found ≡ true → (k m : ℕ) → (k ≡ 0 → ⊥) → m ≡ k - 1 → next m ≡ known x k begins depth (map (tok_of text) (drop i all))
  one_here e k m some h = rw (h, from_here, sym seen ∙ e, not_zero k some) refl
    where
      not_zero : (k : ℕ) → (k ≡ 0 → ⊥) → (k == 0) ≡ false
      not_zero k some = search (rules, some)

  -- what the code has of the token behind it
  as_next : (k : ℕ) (b : Bool) (n : ℕ) → b ≡ parts depth (tok_of text u).word → n ≡ depth_after depth (tok_of text u).word → known x k b n rest ≡ next k
  as_next k b n e f = ap (λ z. known x k z n rest) e ∙ ap (λ z. known x k (parts depth (tok_of text u).word) z rest) f

  pub not_known : found ≡ false → (k : ℕ) (b : Bool) (n : ℕ) → b ≡ parts depth (tok_of text u).word → n ≡ depth_after depth (tok_of text u).word
      → known x k b n rest ≡ known x k begins depth (map (tok_of text) (drop i all))
  not_known missed k b n e f = as_next k b n e f ∙ not_here missed k

  pub one_known : found ≡ true → (k m : ℕ) → (k ≡ 0 → ⊥) → m ≡ k - 1 → (b : Bool) (n : ℕ) → b ≡ parts depth (tok_of text u).word → n ≡ depth_after depth (tok_of text u).word
      → known x m b n rest ≡ known x k begins depth (map (tok_of text) (drop i all))
  one_known met k m some h b n e f = as_next m b n e f ∙ one_here met k m some h

-- ---- the next line

module _ (knows : List KnowItem) (i : ℕ) (l : KnowItem) (within : i < length knows) (at : l ≡ get_or knows i l) (left : ℕ) (ts : List Tok) (count : ℕ)
    (counts : count ≡ length (list_of (know_of l).terms)) where
  line : map know_of (drop i knows) ≡ know_of l ∷ map know_of (drop (i + 1) knows)
  line = map_drop_next know_of knows i l within at

  pub in_this : left < count → term_spot (map know_of (drop i knows)) i left ts ≡ known [] left true 0 (in_line (nth [] a_line i (used ts)))
  in_this low = rw (line, sym counts, lt-ltb left count low) refl

  pub in_later : count ≤ left → term_spot (map know_of (drop (i + 1) knows)) (i + 1) (left - count) ts ≡ term_spot (map know_of (drop i knows)) i left ts
  in_later high = rw (line, sym counts, le-ltb left count high) refl
