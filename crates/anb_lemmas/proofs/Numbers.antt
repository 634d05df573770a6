-- Numbers that are equal, below or not.
use Rattle.std.proofs.Common.{◌≡◌, ℕ, true, arith, ◌≢◌, ◌==◌, false, inl, inr, rules, ◌<◌, ◌≤◌, zero, suc, ◌⊎◌, ⊎_elim, ◌+◌, Bool, refl, ap}
use Rattle.std.specs.Prelude.{nat_lt}
use Rattle.std.proofs.lemmas.Bool.Decides.{nat_tests}
use Rattle.std.proofs.lemmas.Bool.{eqb-true, cases_Bool, ltb-true, ltb-false}
use Rattle.std.proofs.Math.Dec.{ltb}

pub nat_eq-same : (x : ℕ) → (x == x) ≡ true
nat_eq-same x = grind (arith, nat_tests)

pub nat_eq-differs : (a b : ℕ) → a ≢ b → (a == b) ≡ false
nat_eq-differs a b differ = elim (cases_Bool (a == b)) [
  | inl same ↦ absurd (differ (eqb-true a b same))
  | inr other ↦ other
]

pub is_below : (a b : ℕ) → a < b → nat_lt a b ≡ true
is_below a b h = search (rules, arith)

pub isnt_below : (a b : ℕ) → b ≤ a → nat_lt a b ≡ false
isnt_below a b h = search (rules, arith)

pub below_or_not : (i n : ℕ) → (i < n) ⊎ (n ≤ i)
below_or_not i zero = inr (omega arith)
below_or_not zero (suc n) = inl (omega arith)
below_or_not (suc i) (suc n) = ⊎_elim (λ a. inl (omega (arith, a))) (λ b. inr (omega (arith, b))) (below_or_not i n)

pub below_or_last : (i n : ℕ) → i < n + 1 → (i < n) ⊎ (i ≡ n)
below_or_last i n h = by (ltb i n) refl
  where
    by : (b : Bool) → ltb i n ≡ b → (i < n) ⊎ (i ≡ n)
    by true e = inl (ltb-true i n e)
    by false e = inr (omega (arith, ltb-false i n e))

pub below_or_it : (i j : ℕ) → i < j + 1 → (i < j) ⊎ (j ≡ i)
below_or_it zero zero l = inr refl
below_or_it zero (suc j) l = inl (omega arith)
below_or_it (suc i) zero l = absurd (omega (arith, l))
below_or_it (suc i) (suc j) l = ⊎_elim (λ a. inl (omega (arith, a))) (λ b. inr (ap suc b)) (below_or_it i j (omega (arith, l)))

pub same_or_not : (a b : ℕ) → (a ≡ b) ⊎ (a ≡ b → ⊥)
same_or_not zero zero = inl refl
same_or_not zero (suc b) = inr (λ e. omega (arith, e))
same_or_not (suc a) zero = inr (λ e. omega (arith, e))
same_or_not (suc a) (suc b) = ⊎_elim (λ e. inl (ap suc e)) (λ n. inr (λ e. n (omega (arith, e)))) (same_or_not a b)
