-- Items at places.
use Rattle.std.proofs.Common.{◌≡◌, ℕ, zero, suc, ◌+◌, ◌<◌, List, [], ◌∷◌, ◌++◌, length, map, take, get_or, Some, refl, sym, ap, ◌∙◌, arith}
use Rattle.std.specs.Prelude.{slice_get}
use Rattle.std.specs.List.{range_with_len}

pub map_taken : {A B : Type 0} (f : A → B) (xs : List A) (i : ℕ) (x : A) → i < length xs → x ≡ get_or xs i x → map f (take (i + 1) xs) ≡ map f (take i xs) ++ f x ∷ []
map_taken f [] i x h e = absurd (omega arith)
map_taken f (y ∷ ys) zero x h e = let n : 0 + 1 ≡ suc 0 = refl in ap (λ z. f z ∷ []) (sym e)
map_taken f (y ∷ ys) (suc i) x h e = let n : suc i + 1 ≡ suc (i + 1) = omega arith in rw n (ap (λ l. f y ∷ l) (map_taken f ys i x (omega arith) e))

pub later_part : {A : Type 0} (xs ys : List A) (j : ℕ) (x : A) → slice_get ys j ≡ Some x → slice_get (xs ++ ys) (length xs + j) ≡ Some x
later_part [] ys j x e = let n : 0 + j ≡ j = omega arith in rw n e
later_part (y ∷ xs) ys j x e = let n : suc (length xs) + j ≡ suc (length xs + j) = omega arith in rw n (later_part xs ys j x e)

pub number_at : (a n i k : ℕ) → slice_get (range_with_len a n) i ≡ Some k → (i < n) × (k ≡ a + i)
number_at a zero i k e = cc
number_at a (suc n) zero k e = let h : a ≡ k = cc in (omega arith, omega arith)
number_at a (suc n) (suc i) k e = let h = number_at (a + 1) n i k e in (let b = h.0 in omega arith, let b = h.1 in omega arith)

-- one number more
pub one_further : (a n : ℕ) → range_with_len a (n + 1) ≡ range_with_len a n ++ (a + n) ∷ []
one_further a zero = ap (λ k. k ∷ []) (let e : a ≡ a + 0 = omega arith in e)
one_further a (suc n) =
    let e : suc n + 1 ≡ suc (n + 1) = omega arith in
    let f : (a + 1) + n ≡ a + suc n = omega arith in
    rw e (ap (λ l. a ∷ l) (one_further (a + 1) n ∙ ap (λ k. range_with_len (a + 1) n ++ k ∷ []) f))
