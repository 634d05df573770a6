-- Decimal digits: what they are, and that they are read as their number.
use Rattle.std.proofs.Common.{◌≡◌, ◌≢◌, ◌==◌, ◌<◌, ◌≤◌, ◌+◌, ◌-◌, ◌*◌, ◌/◌, ◌%◌, ◌^◌, ℕ, zero, suc, List, [], ◌∷◌, ◌++◌, true, false, nat_lt, refl, subst, ◌∙◌, arith, append_assoc, inl, inr, length, length-append, add-one}
use Rattle.std.proofs.Math.Nat.{pow-suc}
use Rattle.std.specs.List.{AllByRecursion}
use Rattle.std.specs.Fmt.{decimal}
use Rattle.std.specs.Str.{IsUtf8}
use Rattle.std.proofs.lemmas.Str.{IsUtf8-from_ascii}
use Rattle.std.proofs.lemmas.Fmt.{IsAscii-decimal, decimal_from_appends, length-decimal-le_succ}
use Rattle.std.proofs.lemmas.Bool.{cases_lt}
use Rattle.std.proofs.lemmas.Bool.Decides.{nat_tests}
use Rattle.anb_format.specs.Fields.{decimal_digits, digits_within}
use Rattle.anb_format.specs.Reading.{decimal_at}
use Rattle.anb_format.proofs.Splitting.{all_of_both}

one_digit : (more n : ℕ) → n < 10 → digits_within (suc more) n ≡ (48 + n) ∷ []
unfolding digits_within
one_digit more n small = let yes : nat_lt n 10 ≡ true = grind (arith, nat_tests) in rw yes refl

more_digits : (more n : ℕ) → 10 ≤ n → digits_within (suc more) n ≡ digits_within more (n / 10) ++ (48 + n % 10) ∷ []
unfolding digits_within
more_digits more n large = let absent : nat_lt n 10 ≡ false = grind (arith, nat_tests) in rw absent refl

-- a number below 10 ^ (k + 1) has at most k + 1 digits
pub few_digits : (k more n : ℕ) → n < 10 ^ (k + 1) → length (digits_within more n) ≤ k + 1
unfolding digits_within
few_digits k zero n h = omega arith
few_digits zero (suc more) n h = rw (one_digit more n (omega (arith, h))) (omega arith)
few_digits (suc k) (suc more) n h = elim (cases_lt n 10) [
  | inl small ↦ rw (one_digit more n small) (omega arith)
  | inr large ↦
      let step : 10 ^ (suc k + 1) ≡ 10 ^ suc k * 10 = rw (add-one, pow-suc) refl in
      let one : suc k ≡ k + 1 = omega arith in
      let less : n / 10 < 10 ^ suc k = omega (arith, step, h) in
      let bound : n / 10 < 10 ^ (k + 1) = subst (λ j. n / 10 < 10 ^ j) one less in
      rw (more_digits more n large) (omega (arith, length-append (digits_within more (n / 10)) ((48 + n % 10) ∷ []), few_digits k more (n / 10) bound))
]

-- below 2 ^ 64 they are what std writes
pub as_std : (n : ℕ) → n < 2 ^ 64 → decimal_digits n ≡ decimal n
as_std n small = decimal_from_appends digits_within (record { one = one_digit; more = more_digits }) (suc n) n small (omega (arith, length-decimal-le_succ n small))

pub is_text : (n : ℕ) (bytes : List ℕ) → n < 2 ^ 64 → bytes ≡ decimal_digits n → IsUtf8 bytes
is_text n bytes small e = rw (e ∙ as_std n small) (IsUtf8-from_ascii _ (IsAscii-decimal n small))

-- none of them is `:`
none_within : (more n : ℕ) → AllByRecursion (λ b. b ≢ 58) (digits_within more n)
unfolding digits_within
none_within zero n = tt
none_within (suc more) n = elim (cases_lt n 10) [
  | inl small ↦ rw (one_digit more n small) ((λ e. omega arith), tt)
  | inr large ↦ rw (more_digits more n large) (all_of_both 58 (digits_within more (n / 10)) _ (none_within more (n / 10)) ((λ e. omega arith), tt))
]

pub no_colon : (n : ℕ) → AllByRecursion (λ b. b ≢ 58) (decimal_digits n)
no_colon n = none_within (suc n) n

-- reading them comes to the number
number_within : (more n : ℕ) (rest : List ℕ) → n < more → decimal_at 0 (digits_within more n ++ rest) ≡ decimal_at n rest
number_within zero n rest below = absurd (omega arith)
number_within (suc more) n rest below = elim (cases_lt n 10) [
  | inl small ↦
      let absent : (48 + n == 58) ≡ false = grind (arith, nat_tests) in
      let value : 0 * 10 + (48 + n - 48) ≡ n = omega arith in
      rw (one_digit more n small, absent, value) refl
  | inr large ↦
      let absent : (48 + n % 10 == 58) ≡ false = grind (arith, nat_tests) in
      let value : n / 10 * 10 + (48 + n % 10 - 48) ≡ n = omega arith in
      let last : decimal_at (n / 10) ((48 + n % 10) ∷ rest) ≡ decimal_at n rest = rw (absent, value) refl in
      rw (more_digits more n large, append_assoc) (number_within more (n / 10) ((48 + n % 10) ∷ rest) (omega arith) ∙ last)
]

pub decimal_again : (n : ℕ) (rest : List ℕ) → decimal_at 0 (decimal_digits n ++ 58 ∷ rest) ≡ (n, rest)
decimal_again n rest = number_within (suc n) n (58 ∷ rest) (omega arith)
