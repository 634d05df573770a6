-- The values that stand at some places of a table.
use Rattle.std.proofs.Common.{◌≡◌, ◌<◌, ℕ, zero, suc, List, [], ◌∷◌, length, get_or, Some, refl, ap, arith, IsTrue}
use Rattle.std.specs.Prelude.{slice_get}
use Rattle.std.specs.List.{All, AllByRecursion}
use Rattle.std.proofs.lemmas.List.Elements.{recursion_from_All}
use Rattle.anb_base.specs.Bytes.{IsBytes, is_bytes, IsBytes-pass, is_bytes-IsBytes}
use Rattle.anb_term.specs.Lawful.{picked}
use Rattle.anb_term.proofs.Lists.{slice_get-there}

by_recursion : (table : List (List ℕ)) (at : List ℕ) (i : ℕ) (x : List ℕ) → AllByRecursion (λ place. place < length table) at → i < length at → (d : ℕ) → slice_get table (get_or at i d) ≡ Some x → slice_get (picked table at) i ≡ Some x
by_recursion table [] i x all h d e = absurd (omega arith)
by_recursion table (place ∷ at) zero x all h d e = rw e refl
by_recursion table (place ∷ at) (suc i) x all h d e =
    let first = slice_get-there table place all.0 in rw first.1 (by_recursion table at i x all.1 (omega arith) d e)

-- the value at place i of the places
pub picked_at : (table : List (List ℕ)) (at : List ℕ) (i : ℕ) (x : List ℕ) → All (λ place. place < length table) at → i < length at → slice_get table (get_or at i 0) ≡ Some x → slice_get (picked table at) i ≡ Some x
picked_at table at i x all h e = by_recursion table at i x (recursion_from_All (λ place. place < length table) at all) h 0 e

length_by_recursion : (table : List (List ℕ)) (at : List ℕ) → AllByRecursion (λ place. place < length table) at → length (picked table at) ≡ length at
length_by_recursion table [] all = refl
length_by_recursion table (place ∷ at) all = let first = slice_get-there table place all.0 in rw first.1 (ap (λ (n : ℕ). suc n) (length_by_recursion table at all.1))

pub length-picked : (table : List (List ℕ)) (at : List ℕ) → All (λ place. place < length table) at → length (picked table at) ≡ length at
length-picked table at all = length_by_recursion table at (recursion_from_All (λ place. place < length table) at all)

-- a list of so many values, by its values
pub none_picked : (xs : List (List ℕ)) → length xs ≡ 0 → xs ≡ []
none_picked [] n = refl
none_picked (x ∷ xs) n = absurd (omega (arith, n))

pub one_picked : (xs : List (List ℕ)) (a : List ℕ) → length xs ≡ 1 → slice_get xs 0 ≡ Some a → xs ≡ a ∷ []
one_picked (x ∷ []) a n ea = cc
one_picked _ a n ea = absurd (omega (arith, n))

pub two_picked : (xs : List (List ℕ)) (a b : List ℕ) → length xs ≡ 2 → slice_get xs 0 ≡ Some a → slice_get xs 1 ≡ Some b → xs ≡ a ∷ b ∷ []
two_picked (x ∷ y ∷ []) a b n ea eb = cc
two_picked _ a b n ea eb = absurd (omega (arith, n))

pub three_picked : (xs : List (List ℕ)) (a b c : List ℕ) → length xs ≡ 3 → slice_get xs 0 ≡ Some a → slice_get xs 1 ≡ Some b → slice_get xs 2 ≡ Some c → xs ≡ a ∷ b ∷ c ∷ []
three_picked (x ∷ y ∷ z ∷ []) a b c n ea eb ec = cc
three_picked _ a b c n ea eb ec = absurd (omega (arith, n))

pub strings : (bs : List (List ℕ)) → AllByRecursion (λ b. IsTrue (is_bytes b)) bs → AllByRecursion IsBytes bs
strings [] all = tt
strings (b ∷ bs) all = (IsBytes-pass b all.0, strings bs all.1)

pub tests : (bs : List (List ℕ)) → AllByRecursion IsBytes bs → AllByRecursion (λ b. IsTrue (is_bytes b)) bs
tests [] all = tt
tests (b ∷ bs) all = (is_bytes-IsBytes b all.0, tests bs all.1)
