-- The line at a place.
use Rattle.std.proofs.Common.{◌≡◌, ℕ, zero, suc, ◌≤◌, List, [], ◌∷◌, length, map, get_or, true, false, Some, None, refl, sym, arith}
use Rattle.std.specs.Prelude.{slice_get, nat_lt}
use Rattle.std.proofs.lemmas.Bool.Decides.{nat_tests}
use Rattle.std.proofs.lemmas.List.{length-map}
use Rattle.anb_term.proofs.Lists.{slice_get-at, slice_get-map}
use Rattle.anb_term.specs.Tree.{Tree}
use Rattle.anb_term.specs.declared.term.Term.{Term}
use Rattle.anb_term.specs.View.{tree_of}

pub there : (xs : List Term) (i : ℕ) (x : Term) → true ≡ nat_lt i (length xs) → x ≡ get_or xs i x → slice_get (map tree_of xs) i ≡ Some (tree_of x)
there xs i x e is = let below : nat_lt i (length xs) ≡ true = sym e in slice_get-map tree_of xs i x (slice_get-at xs i x (grind (arith, nat_tests)) is)

past : (xs : List Tree) (i : ℕ) → length xs ≤ i → slice_get xs i ≡ None
past [] zero l = refl
past [] (suc i) l = refl
past (x ∷ xs) zero l = absurd (omega (arith, l))
past (x ∷ xs) (suc i) l = past xs i (omega (arith, l))

pub absent : (xs : List Term) (i : ℕ) → false ≡ nat_lt i (length xs) → slice_get (map tree_of xs) i ≡ None
absent xs i e =
    let above : nat_lt i (length xs) ≡ false = sym e in
    let least : length xs ≤ i = grind (arith, nat_tests) in
    past (map tree_of xs) i (omega (arith, least, length-map xs tree_of))
