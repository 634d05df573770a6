-- What is found at the front of bytes is what a literal or a field writes.
use Rattle.std.proofs.Common.{◌≡◌, ◌==◌, ◌<◌, ◌≤◌, ◌+◌, ◌-◌, ◌*◌, ◌/◌, ◌%◌, ◌^◌, ℕ, zero, suc, List, [], ◌∷◌, ◌++◌, length, take, drop, Bool, true, false, cond, nat_lt, Option, Some, None, refl, sym, ap, ◌∙◌, subst, arith, append-nil, append_assoc, length-append, length-take, take-append-drop, inl, inr}
use Rattle.std.specs.Prelude.{◌&&◌, not, codes, decimal, max, slice_index}
use Rattle.std.specs.Option.{option_map_or}
use Rattle.std.specs.List.{AllByRecursion, position_or_len}
use Rattle.std.specs.Str.{bytes_eq}
use Rattle.std.proofs.lemmas.Bool.{and_parts, cases_lt, eqb-true}
use Rattle.std.proofs.lemmas.Bool.Decides.{nat_tests}
use Rattle.std.proofs.lemmas.Fmt.{decimal_by_steps}
use Rattle.std.proofs.lemmas.List.{drop_at, take_at}
use Rattle.std.proofs.lemmas.List.Sums.{prefix_len-le-length}
use Rattle.std.proofs.lemmas.Slice.Eq.{bytes_eq-Decides}
use Rattle.std.proofs.lemmas.Option.{same_Some}
use Rattle.anb_lemmas.proofs.Options.{side_taken}
use Rattle.hex.specs.Hex.{encode_lower, encode_with, lower_digits}
use Rattle.anb_base.specs.Bytes.{IsBytes}
use Rattle.anb_base.proofs.Strings.{bytes_left, bytes_right, with_byte}
use Rattle.anb_format.specs.declared.pieces.FieldKind.{FieldKind}
use Rattle.anb_format.specs.declared.pieces.FieldKind.TheVariants.{Len, Net, Hex, Rest}
use Rattle.anb_format.specs.Fields.{field_bytes, leb128}
use Rattle.anb_format.proofs.Decimals.{as_std}
use Rattle.anb_format.proofs.Leb128.{fewer, leb128_large, leb128_small}
use Rattle.anb_format.proofs.ReadingLemmas.{hex_regrouped, net_regrouped}
use Rattle.anb_format.proofs.Narrow.{hex_long}
use Rattle.anb_text.specs.Reading.{number_of}
use Rattle.anb_text.proofs.Registers.{number_again, number_is}
use Rattle.anb_trace.specs.Misfits.{Before, Found, Misfit, and_then, counted, due, field_found, hex_end, hex_found, is_digit, is_lower_digit, len_found, length_at, literal_found, longer_length, net_found, no_length, place_of, shown}

-- ---- choices

found_yes : (t : Bool) (a rest : List ℕ) (p : ℕ) (w : List ℕ) → cond t (Before a) (Misfit p w) ≡ Before rest → (t ≡ true) × (a ≡ rest)
found_yes true a rest p w e = (refl, cc)
found_yes false a rest p w e = cc

found_no : (t : Bool) (a rest : List ℕ) (p : ℕ) (w : List ℕ) → cond t (Misfit p w) (Before a) ≡ Before rest → (t ≡ false) × (a ≡ rest)
found_no true a rest p w e = cc
found_no false a rest p w e = (refl, cc)

none_or : {A : Type 0} (t : Bool) (a b : A) → ◌≡◌ {A = Option A} (cond t None (Some a)) (Some b) → (t ≡ false) × (a ≡ b)
none_or true a b e = cc
none_or false a b e = (refl, cc)

and_then_is : (f : Found) (next : List ℕ → Found) (rest : List ℕ) → and_then f next ≡ Before rest → (behind : List ℕ) × (f ≡ Before behind) × (next behind ≡ Before rest)
and_then_is (Before behind) next rest e = (behind, refl, e)
and_then_is (Misfit p w) next rest e = cc

-- ---- strings of bytes

-- ---- literals, and counted bytes

pub literal_is : (all : ℕ) (text bytes rest : List ℕ) → literal_found all text bytes ≡ Before rest → bytes ≡ text ++ rest
literal_is all text bytes rest e =
    let k = found_yes (bytes_eq (take (length text) bytes) text) (drop (length text) bytes) rest _ _ e in
    let front : take (length text) bytes ≡ text = (bytes_eq-Decides (take (length text) bytes) text).0 k.0 in
    sym (take-append-drop (length text) bytes) ∙ ap (λ (x : List ℕ). x ++ drop (length text) bytes) front ∙ ap (λ (x : List ℕ). text ++ x) k.1

pub literal_again : (all : ℕ) (text rest : List ℕ) → literal_found all text (text ++ rest) ≡ Before rest
literal_again all text rest =
    let front : take (length text) (text ++ rest) ≡ text = take_at text rest (length text) refl in
    let same : bytes_eq (take (length text) (text ++ rest)) text ≡ true = (bytes_eq-Decides (take (length text) (text ++ rest)) text).1 front in
    rw (same, drop_at text rest (length text) refl) refl

counted_is : (all field n : ℕ) (bytes behind rest : List ℕ) → counted all field bytes n behind ≡ Before rest → (n ≤ length behind) × (drop n behind ≡ rest)
counted_is all field n bytes behind rest e =
    let k = found_no (nat_lt (length behind) n) (drop n behind) rest _ _ e in
    let t : nat_lt (length behind) n ≡ false = k.0 in
    let within : n ≤ length behind = grind (arith, nat_tests) in (within, k.1)

counted_again : (all field : ℕ) (bytes b rest : List ℕ) → counted all field bytes (length b) (b ++ rest) ≡ Before rest
counted_again all field bytes b rest =
    let sum : length (b ++ rest) ≡ length b + length rest = length-append b rest in
    let enough : nat_lt (length (b ++ rest)) (length b) ≡ false = grind (arith, nat_tests) in
    rw (enough, drop_at b rest (length b) refl) refl

-- ---- lengths in LEB128

longer_is : (low n : ℕ) (o : Option (ℕ × List ℕ)) (rest : List ℕ) → longer_length low o ≡ Some (n, rest)
    → (high : ℕ) × (o ≡ Some (high, rest)) × (0 < high) × (n ≡ high * 128 + low)
longer_is low n None rest e = cc
longer_is low n (Some (high, after)) rest e =
    let k = none_or (high == 0) (high * 128 + low, after) (n, rest) e in
    let t : (high == 0) ≡ false = k.0 in
    let positive : 0 < high = grind (arith, nat_tests) in
    (high, ap (λ (r : List ℕ). Some (high, r)) (ap (λ (x : ℕ × List ℕ). x.1) k.1), positive, sym (ap (λ (x : ℕ × List ℕ). x.0) k.1))

one_byte_is : (b n : ℕ) (bytes rest : List ℕ) → nat_lt b 128 ≡ true → ◌≡◌ {A = Option (ℕ × List ℕ)} (Some (b, bytes)) (Some (n, rest)) → b ∷ bytes ≡ leb128 n ++ rest
one_byte_is b n bytes rest below e =
    let pair = same_Some (b, bytes) (n, rest) e in
    let first : b ≡ n = ap (λ (x : ℕ × List ℕ). x.0) pair in
    let after : bytes ≡ rest = ap (λ (x : ℕ × List ℕ). x.1) pair in
    let small : n < 128 = grind (arith, nat_tests) in
    rw (leb128_small n small, first, after) refl

length_is : (more n : ℕ) (bytes rest : List ℕ) → IsBytes bytes → length_at more bytes ≡ Some (n, rest) → bytes ≡ leb128 n ++ rest
length_is zero n [] rest small e = cc
length_is (suc more) n [] rest small e = cc
length_is zero n (b ∷ bytes) rest small e = elim (side_taken (nat_lt b 128) (Some (b, bytes)) None (Some (n, rest)) e) [
  | inl k ↦ one_byte_is b n bytes rest k.0 k.1
  | inr k ↦ let off : ◌≡◌ {A = Option (ℕ × List ℕ)} None (Some (n, rest)) = k.1 in absurd (cc)
]
length_is (suc more) n (b ∷ bytes) rest small e = elim (side_taken (nat_lt b 128) (Some (b, bytes)) (longer_length (b - 128) (length_at more bytes)) (Some (n, rest)) e) [
  | inl k ↦ one_byte_is b n bytes rest k.0 k.1
  | inr k ↦
      let t : nat_lt b 128 ≡ false = k.0 in
      let least : 128 ≤ b = grind (arith, nat_tests) in
      let h = longer_is (b - 128) n (length_at more bytes) rest k.1 in
      let positive : 0 < h.0 = h.2 in
      let value : n ≡ h.0 * 128 + (b - 128) = h.3 in
      let first : b < 256 = small 0 in
      let large : 128 ≤ n = omega (arith, value, positive) in
      let low : 128 + n % 128 ≡ b = omega (arith, value, least, first) in
      let front : n / 128 ≡ h.0 = omega (arith, value, least, first) in
      rw (leb128_large n large, low, front) (ap (λ (t : List ℕ). b ∷ t) (length_is more h.0 bytes rest (λ i. small (suc i)) h.1))
]

length_again : (more n : ℕ) (rest : List ℕ) → n < 128 ^ (more + 1) → length_at more (leb128 n ++ rest) ≡ Some (n, rest)
length_again zero n rest h =
    let small : n < 128 = omega (arith, h) in
    let yes : nat_lt n 128 ≡ true = grind (arith, nat_tests) in
    rw (leb128_small n small, yes) refl
length_again (suc more) n rest h = elim (cases_lt n 128) [
  | inl small ↦ let yes : nat_lt n 128 ≡ true = grind (arith, nat_tests) in rw (leb128_small n small, yes) refl
  | inr large ↦
      let absent : nat_lt (128 + n % 128) 128 ≡ false = grind (arith, nat_tests) in
      let less : suc more - 1 + 1 ≡ more + 1 = omega arith in
      let bound : n / 128 < 128 ^ (more + 1) = rw less at (fewer (suc more) n (omega arith) h) in
      let high : (n / 128 == 0) ≡ false = grind (arith, nat_tests) in
      let value : n / 128 * 128 + (128 + n % 128 - 128) ≡ n = omega arith in
      rw (leb128_large n large, absent, length_again more (n / 128) rest bound, high, value) refl
]

-- ---- digits

all_both : (p : ℕ → Bool) (xs ys : List ℕ) → AllByRecursion (λ b. p b ≡ true) xs → AllByRecursion (λ b. p b ≡ true) ys → AllByRecursion (λ b. p b ≡ true) (xs ++ ys)
all_both p [] ys all more = more
all_both p (x ∷ xs) ys all more = (all.0, all_both p xs ys all.1 more)

-- as many pass as stand before the first that doesn't
front_is : (p : ℕ → Bool) (xs : List ℕ) (y : ℕ) (ys : List ℕ) → AllByRecursion (λ b. p b ≡ true) xs → p y ≡ false → position_or_len (λ b. not (p b)) (xs ++ y ∷ ys) ≡ length xs
front_is p [] y ys all other = rw other refl
front_is p (x ∷ xs) y ys all other = rw all.0 (omega (arith, front_is p xs y ys all.1 other))

-- and those that are before it pass
front_passes : (p : ℕ → Bool) (k : ℕ) (xs : List ℕ) → k ≤ position_or_len (λ b. not (p b)) xs → AllByRecursion (λ b. p b ≡ true) (take k xs)
front_passes p zero xs h = tt
front_passes p (suc k) [] h = tt
front_passes p (suc k) (x ∷ xs) h = by (p x) refl h (front_passes p k xs) where
  by : (t : Bool) → p x ≡ t → suc k ≤ cond (not (not t)) (1 + position_or_len (λ b. not (p b)) xs) 0
      → (k ≤ position_or_len (λ b. not (p b)) xs → AllByRecursion (λ b. p b ≡ true) (take k xs)) → (p x ≡ true) × AllByRecursion (λ b. p b ≡ true) (take k xs)
  by true e h rest = (e, rest (omega (arith, h)))
  by false e h rest = absurd (omega (arith, h))

digits_pass : (n : ℕ) → n < 2 ^ 64 → AllByRecursion (λ b. is_digit b ≡ true) (decimal n)
digits_pass n small = decimal_by_steps (λ n ds. AllByRecursion (λ b. is_digit b ≡ true) ds)
    (λ n digit. let one : is_digit (48 + n) ≡ true = grind (arith, nat_tests) in (one, tt))
    (λ n ds more all. let one : is_digit (48 + n % 10) ≡ true = grind (arith, nat_tests) in all_both is_digit ds ((48 + n % 10) ∷ []) all (one, tt)) n small

-- ---- hexadecimal digits

abbrev digit_of : ℕ → ℕ
digit_of v = cond (nat_lt v 10) (48 + v) (87 + v)

abbrev are_digits : ℕ → Bool
are_digits zero = true
are_digits (suc n) = (slice_index lower_digits n == digit_of n) && are_digits n

is_digit_at : (n v : ℕ) → are_digits n ≡ true → v < n → (slice_index lower_digits v == digit_of v) ≡ true
is_digit_at zero v h below = absurd (omega arith)
is_digit_at (suc n) v h below =
    let parts = and_parts (slice_index lower_digits n == digit_of n) (are_digits n) h in
    elim (cases_lt v n) [
      | inl less ↦ is_digit_at n v parts.1 less
      | inr top ↦ let e : v ≡ n = omega arith in rw e parts.0
    ]

lower_at : (v : ℕ) → v < 16 → slice_index lower_digits v ≡ digit_of v
lower_at v small = eqb-true (slice_index lower_digits v) (digit_of v) (is_digit_at 16 v refl small)

lower_passes : (v : ℕ) → v < 16 → is_lower_digit (slice_index lower_digits v) ≡ true
lower_passes v small = rw (lower_at v small) (elim (cases_lt v 10) [
  | inl less ↦ let t : nat_lt v 10 ≡ true = grind (arith, nat_tests) in rw t (grind (arith, nat_tests))
  | inr more ↦ let t : nat_lt v 10 ≡ false = grind (arith, nat_tests) in rw t (grind (arith, nat_tests))
])

hex_passes : (b : List ℕ) → IsBytes b → AllByRecursion (λ d. is_lower_digit d ≡ true) (encode_lower b)
unfolding encode_with
hex_passes [] small = tt
hex_passes (x ∷ b) small =
    let first : x < 256 = small 0 in
    (lower_passes (x / 16) (omega arith), (lower_passes (x % 16) (omega arith), hex_passes b (λ i. small (suc i))))

-- the value of a digit
value_of : (d : ℕ) → is_lower_digit d ≡ true → (v : ℕ) × (v < 16) × (slice_index lower_digits v ≡ d)
value_of d h = elim (cases_lt d 58) [
  | inl less ↦
      let within : (48 ≤ d) × (d < 58) = grind (arith, nat_tests) in
      let t : nat_lt (d - 48) 10 ≡ true = grind (arith, nat_tests) in
      let sum : 48 + (d - 48) ≡ d = omega arith in
      (d - 48, omega arith, lower_at (d - 48) (omega arith) ∙ rw (t, sum) refl)
  | inr more ↦
      let within : (97 ≤ d) × (d < 103) = grind (arith, nat_tests) in
      let t : nat_lt (d - 87) 10 ≡ false = grind (arith, nat_tests) in
      let sum : 87 + (d - 87) ≡ d = omega arith in
      (d - 87, omega arith, lower_at (d - 87) (omega arith) ∙ rw (t, sum) refl)
]

record IsHexOf (ds : List ℕ) : Type 0 where
  bytes : List ℕ
  small : IsBytes bytes
  digits : encode_lower bytes ≡ ds

-- digits in pairs are some bytes
pairs_are : (k : ℕ) (ds : List ℕ) → length ds ≡ 2 * k → AllByRecursion (λ d. is_lower_digit d ≡ true) ds → IsHexOf ds
unfolding encode_with
pairs_are zero [] count all = record { bytes = []; small = λ i. omega arith; digits = refl }
pairs_are zero (d ∷ ds) count all = absurd (omega (arith, count))
pairs_are (suc k) [] count all = absurd (omega (arith, count))
pairs_are (suc k) (d ∷ []) count all = absurd (omega (arith, count))
pairs_are (suc k) (d ∷ e ∷ ds) count all =
    let high = value_of d all.0 in
    let low = value_of e all.1.0 in
    let rest = pairs_are k ds (omega (arith, count)) all.1.1 in
    let first : (high.0 * 16 + low.0) / 16 ≡ high.0 = omega (arith, low.1) in
    let last : (high.0 * 16 + low.0) % 16 ≡ low.0 = omega (arith, low.1) in
    record {
      bytes = (high.0 * 16 + low.0) ∷ rest.bytes;
      small = with_byte (high.0 * 16 + low.0) rest.bytes (omega (arith, high.1, low.1)) rest.small;
      digits = rw (first, last, high.2, low.2, rest.digits) refl;
    }

hex_end_is : (all : ℕ) (bytes rest : List ℕ) → hex_end all bytes ≡ Before rest → bytes ≡ 59 ∷ rest
hex_end_is all [] rest e = cc
hex_end_is all (b ∷ bytes) rest e =
    let k = found_yes (b == 59) bytes rest _ _ e in
    let first : b ≡ 59 = eqb-true b 59 k.0 in
    rw (first, k.1) refl

-- ---- fields

-- a field of this kind stands in front of these bytes
pub record IsFieldBefore (kind : FieldKind) (bytes rest : List ℕ) : Type 0 where
  pub argument : List ℕ
  pub small : IsBytes argument
  pub stands : bytes ≡ field_bytes kind argument ++ rest

len_is : (all field : ℕ) (bytes rest : List ℕ) → IsBytes bytes → len_found all field bytes ≡ Before rest → IsFieldBefore Len bytes rest
len_is all field bytes rest small e = by (length_at 8 bytes) refl e where
  by : (o : Option (ℕ × List ℕ)) → length_at 8 bytes ≡ o
      → option_map_or (λ (x : ℕ × List ℕ). counted all field bytes x.0 x.1) o (Misfit (place_of all bytes) (no_length bytes)) ≡ Before rest → IsFieldBefore Len bytes rest
  by None is e = cc
  by (Some (n, behind)) is e =
      let front : bytes ≡ leb128 n ++ behind = length_is 8 n bytes behind small is in
      let k = counted_is all field n bytes behind rest e in
      let cut : take n behind ++ rest ≡ behind = ap (λ (x : List ℕ). take n behind ++ x) (sym k.1) ∙ take-append-drop n behind in
      let count : length (take n behind) ≡ n = omega (arith, length-take n behind, k.0) in
      let whole : bytes ≡ leb128 n ++ (take n behind ++ rest) = front ∙ ap (λ (x : List ℕ). leb128 n ++ x) (sym cut) in
      record {
        argument = take n behind;
        small = bytes_left (take n behind) rest (bytes_right (leb128 n) (take n behind ++ rest) (subst IsBytes whole small));
        stands = rw (append_assoc, count) whole;
      }

len_again : (all field : ℕ) (b rest : List ℕ) → length b < 2 ^ 32 → len_found all field (field_bytes Len b ++ rest) ≡ Before rest
len_again all field b rest few =
    let read : length_at 8 (field_bytes Len b ++ rest) ≡ Some (length b, b ++ rest) = rw append_assoc (length_again 8 (length b) (b ++ rest) (omega (arith, few))) in
    rw read (counted_again all field (field_bytes Len b ++ rest) b rest)

net_is : (all field : ℕ) (bytes rest : List ℕ) → IsBytes bytes → net_found all field bytes ≡ Before rest → IsFieldBefore Net bytes rest
net_is all field bytes rest small e = by (number_of (take d bytes)) refl e where
  d : ℕ
  d = position_or_len (λ b. not (is_digit b)) bytes

  by : (o : Option ℕ) → number_of (take d bytes) ≡ o
      → option_map_or (λ n. and_then (literal_found all (58 ∷ []) (drop d bytes)) (λ behind. and_then (counted all field bytes n behind) (literal_found all (44 ∷ [])))) o
      (Misfit (place_of all bytes) (due (codes "a decimal length") (shown (take (max 1 d) bytes)))) ≡ Before rest → IsFieldBefore Net bytes rest
  by None is e = cc
  by (Some n) is e =
      let one = and_then_is (literal_found all (58 ∷ []) (drop d bytes)) (λ behind. and_then (counted all field bytes n behind) (literal_found all (44 ∷ []))) rest e in
      let two = and_then_is (counted all field bytes n one.0) (literal_found all (44 ∷ [])) rest one.2 in
      let colon : drop d bytes ≡ 58 ∷ one.0 = literal_is all (58 ∷ []) (drop d bytes) one.0 one.1 in
      let k = counted_is all field n bytes one.0 two.0 two.1 in
      let comma : two.0 ≡ 44 ∷ rest = literal_is all (44 ∷ []) two.0 rest two.2 in
      let number = number_is (take d bytes) n is in
      let cut : one.0 ≡ take n one.0 ++ 44 ∷ rest = sym (take-append-drop n one.0) ∙ ap (λ (x : List ℕ). take n one.0 ++ x) (k.1 ∙ comma) in
      let whole : bytes ≡ decimal n ++ 58 ∷ (take n one.0 ++ 44 ∷ rest) =
      sym (take-append-drop d bytes) ∙ ap (λ (x : List ℕ). x ++ drop d bytes) number.0 ∙ ap (λ (x : List ℕ). decimal n ++ x) (colon ∙ ap (λ (x : List ℕ). 58 ∷ x) cut) in
      let count : length (take n one.0) ≡ n = omega (arith, length-take n one.0, k.0) in
      let wide : n < 2 ^ 64 = omega (arith, number.1) in
      let tail : IsBytes (58 ∷ (take n one.0 ++ 44 ∷ rest)) = bytes_right (decimal n) (58 ∷ (take n one.0 ++ 44 ∷ rest)) (subst IsBytes whole small) in
      record {
        argument = take n one.0;
        small = bytes_left (take n one.0) (44 ∷ rest) (λ i. tail (suc i));
        stands = whole ∙ sym (net_regrouped (take n one.0) rest ∙ rw (count, as_std n wide) refl);
      }

net_again : (all field : ℕ) (b rest : List ℕ) → length b < 2 ^ 32 → net_found all field (field_bytes Net b ++ rest) ≡ Before rest
net_again all field b rest few =
    let wide : length b < 2 ^ 64 = omega (arith, few) in
    let whole : field_bytes Net b ++ rest ≡ decimal (length b) ++ 58 ∷ (b ++ 44 ∷ rest) = net_regrouped b rest ∙ rw (as_std (length b) wide) refl in
    rw whole (read (decimal (length b)) (number_again (length b) few) (digits_pass (length b) wide)) where
      read : (digits : List ℕ) → number_of digits ≡ Some (length b) → AllByRecursion (λ b. is_digit b ≡ true) digits → net_found all field (digits ++ 58 ∷ (b ++ 44 ∷ rest)) ≡ Before rest
      read digits number all_digits =
          let count = front_is is_digit digits 58 (b ++ 44 ∷ rest) all_digits refl in
          let front = take_at digits (58 ∷ (b ++ 44 ∷ rest)) (length digits) refl in
          let behind = drop_at digits (58 ∷ (b ++ 44 ∷ rest)) (length digits) refl in
          rw (count, front, behind, number)
          (ap (λ (f : Found). and_then f (λ x. and_then (counted all field (digits ++ 58 ∷ (b ++ 44 ∷ rest)) (length b) x) (literal_found all (44 ∷ [])))) (literal_again all (58 ∷ []) (b ++ 44 ∷ rest))
          ∙ ap (λ (f : Found). and_then f (literal_found all (44 ∷ []))) (counted_again all field (digits ++ 58 ∷ (b ++ 44 ∷ rest)) b (44 ∷ rest))
          ∙ literal_again all (44 ∷ []) rest)

hex_is_at : (all d : ℕ) (bytes rest : List ℕ) → d ≡ position_or_len (λ b. not (is_lower_digit b)) bytes → hex_end all (drop (d - d % 2) bytes) ≡ Before rest → IsFieldBefore Hex bytes rest
hex_is_at all d bytes rest is e =
    let within : position_or_len (λ b. not (is_lower_digit b)) bytes ≤ length bytes = prefix_len-le-length (λ b. not (not (is_lower_digit b))) bytes in
    let end : drop (d - d % 2) bytes ≡ 59 ∷ rest = hex_end_is all (drop (d - d % 2) bytes) rest e in
    let count : length (take (d - d % 2) bytes) ≡ 2 * (d / 2) = omega (arith, length-take (d - d % 2) bytes, within, is) in
    let b = pairs_are (d / 2) (take (d - d % 2) bytes) count (front_passes is_lower_digit (d - d % 2) bytes (omega (arith, is))) in
    let whole : bytes ≡ encode_lower b.bytes ++ 59 ∷ rest =
    sym (take-append-drop (d - d % 2) bytes) ∙ ap (λ (x : List ℕ). x ++ drop (d - d % 2) bytes) (sym b.digits) ∙ ap (λ (x : List ℕ). encode_lower b.bytes ++ x) end in
    record { argument = b.bytes; small = b.small; stands = whole ∙ sym (hex_regrouped b.bytes rest) }

hex_is : (all : ℕ) (bytes rest : List ℕ) → hex_found all bytes ≡ Before rest → IsFieldBefore Hex bytes rest
hex_is all bytes rest e = hex_is_at all (position_or_len (λ b. not (is_lower_digit b)) bytes) bytes rest refl e

hex_again : (all : ℕ) (b rest : List ℕ) → IsBytes b → hex_found all (field_bytes Hex b ++ rest) ≡ Before rest
hex_again all b rest small =
    let count = front_is is_lower_digit (encode_lower b) 59 rest (hex_passes b small) refl in
    let even : length (encode_lower b) - length (encode_lower b) % 2 ≡ length (encode_lower b) = omega (arith, hex_long b) in
    let behind = drop_at (encode_lower b) (59 ∷ rest) (length (encode_lower b)) refl in
    rw (hex_regrouped b rest, count, even, behind) refl

pub field_is : (kind : FieldKind) (all field : ℕ) (bytes rest : List ℕ) → IsBytes bytes → field_found all kind field bytes ≡ Before rest → IsFieldBefore kind bytes rest
field_is Len all field bytes rest small e = len_is all field bytes rest small e
field_is Net all field bytes rest small e = net_is all field bytes rest small e
field_is Hex all field bytes rest small e = hex_is all bytes rest e
field_is Rest all field bytes rest small e = let none : [] ≡ rest = cc in record { argument = bytes; small = small; stands = rw (sym none, append-nil) refl }

pub field_again : (kind : FieldKind) (all field : ℕ) (b rest : List ℕ) → IsBytes b → length b < 2 ^ 32 → (kind ≡ Rest → rest ≡ []) → field_found all kind field (field_bytes kind b ++ rest) ≡ Before rest
field_again Len all field b rest small few last = len_again all field b rest few
field_again Net all field b rest small few last = net_again all field b rest few
field_again Hex all field b rest small few last = hex_again all b rest small
field_again Rest all field b rest small few last = rw (last refl) refl
