-- What digits are, and what follows them.
use Rattle.std.proofs.Common.{◌≡◌, ◌≢◌, ◌<◌, ◌≤◌, ◌+◌, ◌-◌, ◌*◌, ◌/◌, ◌%◌, ℕ, zero, suc, true, false, nat_lt, List, [], ◌∷◌, ◌++◌, length, map, slice_index, Some, None, IsSome, Ok, refl, ap, sym, ◌∙◌, arith, inl, inr, append_assoc, length-append}
use Rattle.std.specs.List.{AllByRecursion}
use Rattle.std.proofs.lemmas.Bool.{cases_lt}
use Rattle.std.proofs.lemmas.Bool.Decides.{nat_tests}
use Rattle.std.proofs.lemmas.List.{length-map}
use Rattle.hex.specs.Hex.{decode_of, encode_lower, encode_upper, encode_with, hex_digit_value}
use Rattle.hex.proofs.HexLemmas.{IsDigits, IsDigits-lower_digits, IsDigits-upper_digits, decode_of-encode_lower, decode_of-encode_upper}
use Rattle.anb_base.specs.Bytes.{IsBytes}
use Rattle.anb_format.specs.Fields.{decimal_digits, digits_within, leb128}
use Rattle.anb_format.specs.Reading.{leb128_at}
use Rattle.anb_format.proofs.Leb128.{leb128_large, leb128_small}
use Rattle.anb_lemmas.proofs.Each.{each_in_both}
use Rattle.anb_spoil.specs.Rows.{long_leb128}

-- where one list goes on with what can't be in either front, both fronts are the same
pub seam : (P : ℕ → Type 0) (a c : ℕ) → (P a → ⊥) → (P c → ⊥) → (xs ys rest other : List ℕ) → AllByRecursion P xs → AllByRecursion P ys
    → xs ++ a ∷ rest ≡ ys ++ c ∷ other → (xs ≡ ys) × (a ≡ c)
seam P a c apart never [] [] rest other all each e = (refl, cc)
seam P a c apart never [] (y ∷ ys) rest other all each e = let same : y ≡ a = cc in absurd (apart (rw same at each.0))
seam P a c apart never (x ∷ xs) [] rest other all each e = let same : x ≡ c = cc in absurd (never (rw same at all.0))
seam P a c apart never (x ∷ xs) (y ∷ ys) rest other all each e =
    let first : x ≡ y = cc in
    let others : xs ++ a ∷ rest ≡ ys ++ c ∷ other = cc in
    let found = seam P a c apart never xs ys rest other all.1 each.1 others in
    let same = found.0 in (cc, found.1)

-- decimal digits are below `:`
below_within : (more n : ℕ) → AllByRecursion (λ b. b < 58) (digits_within more n)
unfolding digits_within
below_within zero n = tt
below_within (suc more) n = elim (cases_lt n 10) [
  | inl small ↦ let yes : nat_lt n 10 ≡ true = grind (arith, nat_tests) in rw yes (omega arith, tt)
  | inr large ↦
      let absent : nat_lt n 10 ≡ false = grind (arith, nat_tests) in
      rw absent (each_in_both (λ b. b < 58) (digits_within more (n / 10)) ((48 + n % 10) ∷ []) (below_within more (n / 10)) (omega arith, tt))
]

pub digits_below : (n : ℕ) → AllByRecursion (λ b. b < 58) (decimal_digits n)
digits_below n = below_within (suc n) n

-- a hexadecimal digit of either case
abbrev pub IsDigit : ℕ → Type 0
IsDigit b = IsSome (hex_digit_value b)

-- the signs behind digits are none
pub sign_is_none : (b : ℕ) → hex_digit_value b ≡ None → IsDigit b → ⊥
sign_is_none b none h = let bad = rw none at h in cc

pub digit_is_none : (b d : ℕ) → hex_digit_value b ≡ Some d → b ≢ 59
digit_is_none b d value e = let bad = rw e at value in cc

digit_there : (t : List ℕ) → IsDigits t → (d : ℕ) → d < 16 → IsDigit (slice_index t d)
digit_there t digits d small = rw (digits d small) refl

digits_with : (t : List ℕ) → IsDigits t → (bytes : List ℕ) → IsBytes bytes → AllByRecursion IsDigit (encode_with t bytes)
unfolding encode_with
digits_with t digits [] small = tt
digits_with t digits (b ∷ bytes) small =
    let first : b < 256 = small 0 in
    (digit_there t digits (b / 16) (omega arith), (digit_there t digits (b % 16) (omega arith), digits_with t digits bytes (λ i. small (suc i))))

pub lower_are_digits : (bytes : List ℕ) → IsBytes bytes → AllByRecursion IsDigit (encode_lower bytes)
lower_are_digits bytes small = digits_with _ IsDigits-lower_digits bytes small

pub upper_are_digits : (bytes : List ℕ) → IsBytes bytes → AllByRecursion IsDigit (encode_upper bytes)
upper_are_digits bytes small = digits_with _ IsDigits-upper_digits bytes small

-- digits of either case are those of one byte string
pub one_string : (b c : List ℕ) → IsBytes b → IsBytes c → encode_upper b ≡ encode_lower c → b ≡ c
one_string b c small other e =
    let one = decode_of-encode_upper b small in
    let two = decode_of-encode_lower c other in
    let both : Ok b ≡ Ok c = sym one ∙ ap decode_of e ∙ two in cc

-- a length that isn't minimal is read as the same number, and is one byte longer
long_below : (bound n : ℕ) (rest : List ℕ) → n < bound → leb128_at (long_leb128 n ++ rest) ≡ (n, rest)
long_below zero n rest below = absurd (omega arith)
long_below (suc bound) n rest below = elim (cases_lt n 128) [
  | inl small ↦
      let absent : nat_lt (128 + n % 128) 128 ≡ false = grind (arith, nat_tests) in
      let value : 128 + n % 128 - 128 + 128 * 0 ≡ n = omega arith in
      rw (leb128_small n small, absent, value) refl
  | inr large ↦
      let byte : 128 + (128 + n % 128) % 128 ≡ 128 + n % 128 = omega arith in
      let absent : nat_lt (128 + n % 128) 128 ≡ false = grind (arith, nat_tests) in
      let value : 128 + n % 128 - 128 + 128 * (n / 128) ≡ n = omega arith in
      rw (leb128_large n large, byte, absent, long_below bound (n / 128) rest (omega arith), value) refl
]

pub long_again : (n : ℕ) (rest : List ℕ) → leb128_at (long_leb128 n ++ rest) ≡ (n, rest)
long_again n rest = long_below (suc n) n rest (omega arith)

pub length-long_leb128 : (n : ℕ) → length (long_leb128 n) ≡ length (leb128 n) + 1
length-long_leb128 n = omega (arith, length-append (map (λ b. 128 + b % 128) (leb128 n)) (0 ∷ []), length-map (leb128 n) (λ b. 128 + b % 128))
