-- Later tokens begin at larger offsets.
use Rattle.std.proofs.Common.{◌≡◌, ℕ, suc, ◌+◌, ◌<◌, ◌≤◌, List, [], ◌∷◌, length, drop, Option, Some, None, refl, sym, ap, subst, arith, inl, inr, cond, take}
use Rattle.std.specs.Prelude.{◌==◌, ◌&&◌}
use Rattle.std.specs.List.{prefix_len}
use Rattle.anb_lemmas.proofs.Options.{side_taken}
use Rattle.anb_syntax.specs.Words.{Word, name, literal, sign, Tok, Begins, is_letter, is_name_byte}
use Rattle.anb_syntax.specs.Lexing.{gap_len, token_here, quoted, characters_here, is_sign, begins_with, Lexes, LexesHere}
use Rattle.anb_syntax.proofs.Names.{name_long}

quoted_long : (o : Option (List ℕ × ℕ)) (t : Word × ℕ) → quoted o ≡ Some t → 0 < t.1
quoted_long None t e = cc (e)
quoted_long (Some r) t e = let s : (literal r.0, suc r.1) ≡ t = cc (e) in let h : suc r.1 ≡ t.1 = ap (λ (u : Word × ℕ). u.1) s in omega arith

-- a token isn't empty
pub token_long : (x : List ℕ) (t : Word × ℕ) → token_here x ≡ Some t → 0 < t.1
token_long [] t e = cc (e)
token_long (b ∷ x) t e = elim (side_taken (is_letter b) (Some (name (take (prefix_len is_name_byte (b ∷ x)) (b ∷ x)), prefix_len is_name_byte (b ∷ x))) (others b x) (Some t) e) [
  | inl c ↦ let s : (name (take (prefix_len is_name_byte (b ∷ x)) (b ∷ x)), prefix_len is_name_byte (b ∷ x)) ≡ t = cc (c.1) in subst (λ (u : Word × ℕ). 0 < u.1) s (name_long b x c.0)
  | inr c ↦ elim (side_taken (b == 34) (quoted (characters_here x)) (signs b x) (Some t) c.1) [
    | inl d ↦ quoted_long (characters_here x) t d.1
    | inr d ↦ elim (side_taken (is_sign b) (Some (sign b, 1)) (arrows b x) (Some t) d.1) [
      | inl f ↦ let s : (sign b, 1) ≡ t = cc (f.1) in subst (λ (u : Word × ℕ). 0 < u.1) s (omega arith)
      | inr f ↦ elim (side_taken (b == 45 && begins_with 62 x) (Some (sign 45, 2)) None (Some t) f.1) [
        | inl g ↦ let s : (sign 45, 2) ≡ t = cc (g.1) in subst (λ (u : Word × ℕ). 0 < u.1) s (omega arith)
        | inr g ↦ cc (g.1)
      ]
    ]
  ]
]
  where
    arrows : ℕ → List ℕ → Option (Word × ℕ)
    arrows b x = cond (b == 45 && begins_with 62 x) (Some (sign 45, 2)) None

    signs : ℕ → List ℕ → Option (Word × ℕ)
    signs b x = cond (is_sign b) (Some (sign b, 1)) (arrows b x)

    others : ℕ → List ℕ → Option (Word × ℕ)
    others b x = cond (b == 34) (quoted (characters_here x)) (signs b x)

-- where another token follows, this one is a token, and is passed over
goes_on : (Others : ℕ → Type 0) (ts : List Tok) (y : List ℕ) (o : Option (Word × ℕ)) (w : Word) → o ≡ token_here y → (ts ≡ [] → ⊥) → LexesHere Others (ts ≡ []) y o w → (t : Word × ℕ) × (token_here y ≡ Some t) × Others t.1
goes_on Others ts [] None w e n h = absurd (n h.1)
goes_on Others ts (b ∷ y) None w e n h = absurd (n h.1)
goes_on Others ts [] (Some t) w e n h = (t, sym e, h.1)
goes_on Others ts (b ∷ y) (Some t) w e n h = (t, sym e, h.1)

pub not_empty : (b : List Word) (ts : List Tok) (u : Tok) (s : List Tok) → Begins ts b (u ∷ s) → ts ≡ [] → ⊥
not_empty [] ts u s g e = cc (g, e)
not_empty (y ∷ b) [] u s g e = g
not_empty (y ∷ b) (t ∷ ts) u s g e = cc (e)

module _ (at : ℕ) (x : List ℕ) (t : Tok) (ts : List Tok) (l : Lexes at x (t ∷ ts)) (some : ts ≡ [] → ⊥) where
  pub passed : (n : Word × ℕ) × (token_here (drop (gap_len x) x) ≡ Some n) × Lexes (at + gap_len x + n.1) (drop n.1 (drop (gap_len x) x)) ts
  passed = goes_on (λ n. Lexes (at + gap_len x + n) (drop n (drop (gap_len x) x)) ts) ts (drop (gap_len x) x) (token_here (drop (gap_len x) x)) t.word refl some l.1

from_on : (at : ℕ) (x : List ℕ) (ts : List Tok) (b : List Word) (u : Tok) (s : List Tok) → Lexes at x ts → Begins ts b (u ∷ s) → at ≤ u.at
from_on at x [] b u s l g = absurd l
from_on at x (t ∷ ts) [] u s l g = let e : t ≡ u = cc (g) in let h : t.at ≡ u.at = ap (λ (v : Tok). v.at) e in omega (arith, l.0)
from_on at x (t ∷ ts) (y ∷ b) u s l g =
    let k = passed at x t ts l (not_empty b ts u s g.1) in
    omega (arith, from_on (at + gap_len x + k.0.1) (drop k.0.1 (drop (gap_len x) x)) ts b u s k.2 g.1)

pub increasing : (at : ℕ) (x : List ℕ) (ts : List Tok) (a b : List Word) (t u : Tok) (r s : List Tok) → Lexes at x ts → Begins ts a (t ∷ r) → Begins ts b (u ∷ s) → length a < length b → t.at < u.at
increasing at x ts [] [] t u r s l g h lt = absurd (omega arith)
increasing at x ts (y ∷ a) [] t u r s l g h lt = absurd (omega arith)
increasing at x [] a (z ∷ b) t u r s l g h lt = absurd l
increasing at x (v ∷ ts) [] (z ∷ b) t u r s l g h lt =
    let e : v ≡ t = cc (g) in
    let i : v.at ≡ t.at = ap (λ (w : Tok). w.at) e in
    let k = passed at x v ts l (not_empty b ts u s h.1) in
    omega (arith, l.0, token_long (drop (gap_len x) x) k.0 k.1, from_on (at + gap_len x + k.0.1) (drop k.0.1 (drop (gap_len x) x)) ts b u s k.2 h.1)
increasing at x (v ∷ ts) (y ∷ a) (z ∷ b) t u r s l g h lt =
    let k = passed at x v ts l (not_empty b ts u s h.1) in
    increasing (at + gap_len x + k.0.1) (drop k.0.1 (drop (gap_len x) x)) ts a b t u r s k.2 g.1 h.1 (omega arith)
