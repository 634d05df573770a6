-- What is taken of a list, item by item.
use Rattle.std.proofs.Common.{◌≡◌, ◌≢◌, ℕ, zero, suc, ◌-◌, List, ◌∷◌, take, refl, ap, arith}

pub next_taken : {A : Type 0} (n : ℕ) (x : A) (xs : List A) → n ≢ 0 → take n (x ∷ xs) ≡ x ∷ take (n - 1) xs
next_taken zero x xs some = absurd (some refl)
next_taken (suc n) x xs some = let e : n ≡ suc n - 1 = omega arith in ap (λ k. x ∷ take k xs) e
