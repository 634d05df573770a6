-- The tokens at the front: how many come before some kinds, and whether they are of given kinds.
use Rattle.std.proofs.Common.{◌≡◌, ℕ, zero, suc, ◌+◌, ◌<◌, ◌≤◌, List, [], ◌∷◌, length, drop, get_or, Bool, true, false, Some, refl, sym, ap, ◌∙◌, arith, cond}
use Rattle.std.specs.Prelude.{not}
use Rattle.std.specs.List.{list_any}
use Rattle.std.proofs.lemmas.List.{drop_more}
use Rattle.anb_choice.specs.declared.marks.Kind.{Kind}
use Rattle.anb_choice.specs.declared.marks.Mark.{Mark}
use Rattle.anb_choice.specs.Order.{before, kind_at, kind_eqb, place_at}
use Rattle.anb_choice.specs.Parsing.{misfit}

module _ (kinds : List Kind) (ms : List Mark) (i : ℕ) (m : Mark) (h : i < length ms) (e : m ≡ get_or ms i m) where
  rest : drop i ms ≡ m ∷ drop (i + 1) ms
  rest = drop_more ms i m h ∙ ap (λ y. y ∷ drop (i + 1) ms) (sym e)

  -- the token is of none of these kinds
  pub before_more : list_any (kind_eqb m.kind) kinds ≡ false → before kinds (drop i ms) ≡ 1 + before kinds (drop (i + 1) ms)
  before_more other = ap (before kinds) rest ∙ ap (λ b. cond (not b) (1 + before kinds (drop (i + 1) ms)) 0) other

  -- the token is of one of them
  pub before_here : list_any (kind_eqb m.kind) kinds ≡ true → before kinds (drop i ms) ≡ 0
  before_here one = ap (before kinds) rest ∙ ap (λ b. cond (not b) (1 + before kinds (drop (i + 1) ms)) 0) one

within_more : (b : Bool) (n m : ℕ) → n ≤ m → cond (not b) (1 + n) 0 ≤ suc m
within_more true n m h = omega arith
within_more false n m h = omega (arith, h)

pub before-within : (kinds : List Kind) (ms : List Mark) → before kinds ms ≤ length ms
before-within kinds [] = omega arith
before-within kinds (m ∷ ms) = within_more (list_any (kind_eqb m.kind) kinds) (before kinds ms) (length ms) (before-within kinds ms)

same_kinds : (k l m : Kind) (r v : Bool) → r ≡ kind_eqb k l → l ≡ m → r ≡ v → kind_eqb k m ≡ v
same_kinds k l m r v e f g = ap (kind_eqb k) (sym f) ∙ sym e ∙ g

kinds_at : (ks : List Kind) (ms : List Mark) (i : ℕ) (d : Kind) (v : Bool) → i < length ks → i < length ms → kind_eqb (get_or ks i d) (kind_at ms i) ≡ v
    → misfit (drop i ks) (drop i ms) ≡ cond v (misfit (drop (i + 1) ks) (drop (i + 1) ms)) (Some (place_at ms i))
kinds_at [] ms i d v h w t = absurd (omega (arith, h))
kinds_at (x ∷ ks) [] i d v h w t = absurd (omega (arith, w))
kinds_at (x ∷ ks) (m ∷ ms) zero d v h w t = ap (λ b. cond b (misfit ks ms) (Some m.at)) t
kinds_at (x ∷ ks) (m ∷ ms) (suc i) d v h w t = rw (after i) (kinds_at ks ms i d v (omega (arith, h)) (omega (arith, w)) t) where
  after : (n : ℕ) → suc n + 1 ≡ suc (n + 1)
  after n = omega arith

module _ (ks : List Kind) (ms : List Mark) (i : ℕ) (d l : Kind) (r : Bool) (h : i < length ks) (w : i < length ms) (e : r ≡ kind_eqb (get_or ks i d) l) (f : l ≡ kind_at ms i) where
  -- one kind more
  pub misfit_more : r ≡ true → misfit (drop i ks) (drop i ms) ≡ misfit (drop (i + 1) ks) (drop (i + 1) ms)
  misfit_more g = kinds_at ks ms i d true h w (same_kinds (get_or ks i d) l (kind_at ms i) r true e f g)

  -- a token of another kind
  pub misfit_here : r ≡ false → misfit (drop i ks) (drop i ms) ≡ Some (place_at ms i)
  misfit_here g = kinds_at ks ms i d false h w (same_kinds (get_or ks i d) l (kind_at ms i) r false e f g)

drop_none : {A : Type 0} (k : ℕ) → drop {A = A} k [] ≡ []
drop_none zero = refl
drop_none (suc k) = refl

-- no token
pub misfit_short : (ks : List Kind) (ms : List Mark) (i : ℕ) → i < length ks → length ms ≤ i → misfit (drop i ks) (drop i ms) ≡ Some 0
misfit_short [] ms i h w = absurd (omega (arith, h))
misfit_short (x ∷ ks) [] zero h w = refl
misfit_short (x ∷ ks) [] (suc i) h w = ap (λ (l : List Mark). misfit (drop i ks) l) (sym (drop_none i)) ∙ misfit_short ks [] i (omega (arith, h)) (omega arith)
misfit_short (x ∷ ks) (m ∷ ms) zero h w = absurd (omega (arith, w))
misfit_short (x ∷ ks) (m ∷ ms) (suc i) h w = misfit_short ks ms i (omega (arith, h)) (omega (arith, w))
