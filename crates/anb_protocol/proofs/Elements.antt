-- An element of a list, seen another way.
use Rattle.std.proofs.Common.{◌≡◌, ℕ, ◌<◌, List, length, map, get_or, ap, sym, ◌∙◌, arith, refl, Bool, true, false}
use Rattle.std.specs.Prelude.{◌==◌}
use Rattle.std.proofs.lemmas.Bool.{eqb-true}
use Rattle.std.proofs.lemmas.List.{length-map}
use Rattle.std.proofs.Math.ListN.{get_or-map}

-- it stands at the same place of the list seen that way
pub seen_as : {X Y : Type 0} (f : X → Y) (xs : List X) (i : ℕ) (x : X) → x ≡ get_or xs i x → f x ≡ get_or (map f xs) i (f x)
seen_as f xs i x e = ap f e ∙ sym (get_or-map f xs i x)

pub within_map : {X Y : Type 0} (f : X → Y) (xs : List X) (i : ℕ) → i < length xs → i < length (map f xs)
within_map f xs i h = omega (arith, length-map xs f)

pub unequal : (a b : ℕ) → (a ≡ b → ⊥) → (a == b) ≡ false
unequal a b n = by_test (a == b) refl
  where
    by_test : (v : Bool) → (a == b) ≡ v → v ≡ false
    by_test true e = absurd (n (eqb-true a b e))
    by_test false e = refl
