-- Short lists by their items, equal byte strings, and options by what they come from.
use Rattle.std.proofs.Common.{◌≡◌, ℕ, List, [], ◌∷◌, length, true, false, refl, ap, arith, ◌≢◌}
use Rattle.std.specs.List.{slice_index}
use Rattle.std.specs.Str.{bytes_eq}
use Rattle.std.proofs.lemmas.Slice.Eq.{bytes_eq-Decides}
use Rattle.std.proofs.lemmas.Bool.{false_from_ne_true}

pub no_items : {A : Type 0} (xs : List A) → length xs ≡ 0 → [] ≡ xs
no_items [] e = refl
no_items (x ∷ xs) e = absurd (omega (arith, e))

pub one_item : (xs : List ℕ) → length xs ≡ 1 → slice_index xs 0 ∷ [] ≡ xs
one_item [] e = absurd (omega (arith, e))
one_item (x ∷ xs) e = ap (λ rest. x ∷ rest) (no_items xs (omega (arith, e)))

pub two_items : (xs : List ℕ) → length xs ≡ 2 → slice_index xs 0 ∷ slice_index xs 1 ∷ [] ≡ xs
two_items [] e = absurd (omega (arith, e))
two_items (x ∷ xs) e = ap (λ rest. x ∷ rest) (one_item xs (omega (arith, e)))

pub three_items : (xs : List ℕ) → length xs ≡ 3 → slice_index xs 0 ∷ slice_index xs 1 ∷ slice_index xs 2 ∷ [] ≡ xs
three_items [] e = absurd (omega (arith, e))
three_items (x ∷ xs) e = ap (λ rest. x ∷ rest) (two_items xs (omega (arith, e)))

pub bytes_are_one : (a b : List ℕ) → bytes_eq a b ≡ true → a ≡ b
bytes_are_one a b e = (bytes_eq-Decides a b).0 e

pub bytes_eq-same : (a : List ℕ) → bytes_eq a a ≡ true
bytes_eq-same a = (bytes_eq-Decides a a).1 refl

pub bytes_differ : (one other : List ℕ) → one ≢ other → bytes_eq one other ≡ false
bytes_differ one other differ = false_from_ne_true (bytes_eq one other) (λ e. differ ((bytes_eq-Decides one other).0 e))
