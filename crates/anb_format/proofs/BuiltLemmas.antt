-- What is built of byte strings is a byte string.
use Rattle.std.proofs.Common.{◌≡◌, ◌<◌, ◌+◌, ◌/◌, ◌%◌, ◌&&◌, ℕ, zero, suc, List, [], ◌∷◌, ◌++◌, length, slice_index, nat_lt, true, false, refl, arith, inl, inr}
use Rattle.std.proofs.lemmas.Bool.{and_parts, cases_lt}
use Rattle.std.proofs.lemmas.Bool.Decides.{nat_tests}
use Rattle.std.specs.List.{AllByRecursion, list_all}
use Rattle.anb_base.specs.Bytes.{IsBytes, IsBytes-pass, is_bytes, is_bytes-IsBytes}
use Rattle.anb_base.proofs.Strings.{with_byte}
use Rattle.hex.specs.Hex.{encode_lower, encode_with, lower_digits}
use Rattle.anb_format.specs.declared.pieces.FieldKind.{FieldKind}
use Rattle.anb_format.specs.declared.pieces.FieldKind.TheVariants.{Len, Net, Hex, Rest}
use Rattle.anb_format.specs.declared.pieces.Piece.{Piece}
use Rattle.anb_format.specs.declared.pieces.Piece.TheVariants.{Lit, Field}
use Rattle.anb_format.specs.Fields.{decimal_digits, digits_within, field_bytes, leb128}
use Rattle.anb_format.specs.Formats.{IsBytesPiece, IsSound, ends_at_rest, format_bytes, head, is_bytes_piece, is_sound}
use Rattle.anb_format.proofs.Leb128.{leb128_large, leb128_small}
use Rattle.anb_format.proofs.ReadingLemmas.{RestIsLast, rest_last}

no_bytes : IsBytes []
no_bytes i = omega arith

pub IsBytes-append : (xs ys : List ℕ) → IsBytes xs → IsBytes ys → IsBytes (xs ++ ys)
IsBytes-append [] ys p q = q
IsBytes-append (x ∷ xs) ys p q = with_byte x (xs ++ ys) (p 0) (IsBytes-append xs ys (λ i. p (suc i)) q)

leb128_below : (bound n : ℕ) → n < bound → IsBytes (leb128 n)
leb128_below zero n below = absurd (omega arith)
leb128_below (suc bound) n below = elim (cases_lt n 128) [
  | inl small ↦ rw (leb128_small n small) (with_byte n [] (omega arith) no_bytes)
  | inr large ↦ rw (leb128_large n large) (with_byte (128 + n % 128) (leb128 (n / 128)) (omega arith) (leb128_below bound (n / 128) (omega arith)))
]

digits_are_bytes : (more n : ℕ) → IsBytes (digits_within more n)
unfolding digits_within
digits_are_bytes zero n = no_bytes
digits_are_bytes (suc more) n = elim (cases_lt n 10) [
  | inl small ↦ let yes : nat_lt n 10 ≡ true = grind (arith, nat_tests) in rw yes (with_byte (48 + n) [] (omega arith) no_bytes)
  | inr large ↦
      let absent : nat_lt n 10 ≡ false = grind (arith, nat_tests) in
      rw absent (IsBytes-append (digits_within more (n / 10)) ((48 + n % 10) ∷ []) (digits_are_bytes more (n / 10)) (with_byte (48 + n % 10) [] (omega arith) no_bytes))
]

hex_digits_are_bytes : (bytes : List ℕ) → IsBytes (encode_lower bytes)
unfolding encode_with
hex_digits_are_bytes [] = no_bytes
hex_digits_are_bytes (b ∷ bytes) =
    let table : IsBytes lower_digits = IsBytes-pass lower_digits refl in
    with_byte (slice_index lower_digits (b / 16)) (slice_index lower_digits (b % 16) ∷ encode_lower bytes) (table (b / 16))
    (with_byte (slice_index lower_digits (b % 16)) (encode_lower bytes) (table (b % 16)) (hex_digits_are_bytes bytes))

field_is_bytes : (kind : FieldKind) (b : List ℕ) → IsBytes b → IsBytes (field_bytes kind b)
field_is_bytes Len b small = IsBytes-append (leb128 (length b)) b (leb128_below (suc (length b)) (length b) (omega arith)) small
field_is_bytes Net b small =
    IsBytes-append (decimal_digits (length b) ++ 58 ∷ b) (44 ∷ [])
    (IsBytes-append (decimal_digits (length b)) (58 ∷ b) (digits_are_bytes (suc (length b)) (length b)) (with_byte 58 b (omega arith) small))
    (with_byte 44 [] (omega arith) no_bytes)
field_is_bytes Hex b small = IsBytes-append (encode_lower b) (59 ∷ []) (hex_digits_are_bytes b) (with_byte 59 [] (omega arith) no_bytes)
field_is_bytes Rest b small = small

pub built_is_bytes : (pieces : List Piece) (arguments : List (List ℕ)) → AllByRecursion IsBytesPiece pieces → AllByRecursion IsBytes arguments → IsBytes (format_bytes pieces arguments)
built_is_bytes [] arguments literals strings = no_bytes
built_is_bytes (Lit text ∷ pieces) arguments literals strings = IsBytes-append text (format_bytes pieces arguments) literals.0 (built_is_bytes pieces arguments literals.1 strings)
built_is_bytes (Field kind ∷ pieces) [] literals strings = no_bytes
built_is_bytes (Field kind ∷ pieces) (b ∷ arguments) literals strings =
    IsBytes-append (field_bytes kind b) (format_bytes pieces arguments) (field_is_bytes kind b strings.0) (built_is_bytes pieces arguments literals.1 strings.1)

-- the test of sound pieces

rest_test : (pieces : List Piece) → ends_at_rest pieces ≡ true → RestIsLast pieces
rest_test [] passes zero e = absurd (omega (arith, e.1))
rest_test [] passes (suc i) e = absurd (omega (arith, e.1))
rest_test (Lit text ∷ pieces) passes zero e = let bad = e.0 in absurd (cc)
rest_test (Lit text ∷ pieces) passes (suc i) e = rest_test pieces passes i (e.0, omega (arith, e.1))
rest_test (Field kind ∷ []) passes zero e = absurd (omega (arith, e.1))
rest_test (Field kind ∷ []) passes (suc i) e = absurd (omega (arith, e.1))
rest_test (Field Rest ∷ p ∷ pieces) passes i e = absurd (cc)
rest_test (Field Len ∷ p ∷ pieces) passes zero e = let bad = e.0 in absurd (cc)
rest_test (Field Len ∷ p ∷ pieces) passes (suc i) e = rest_test (p ∷ pieces) passes i (e.0, omega (arith, e.1))
rest_test (Field Net ∷ p ∷ pieces) passes zero e = let bad = e.0 in absurd (cc)
rest_test (Field Net ∷ p ∷ pieces) passes (suc i) e = rest_test (p ∷ pieces) passes i (e.0, omega (arith, e.1))
rest_test (Field Hex ∷ p ∷ pieces) passes zero e = let bad = e.0 in absurd (cc)
rest_test (Field Hex ∷ p ∷ pieces) passes (suc i) e = rest_test (p ∷ pieces) passes i (e.0, omega (arith, e.1))

passes_rest : (pieces : List Piece) → RestIsLast pieces → ends_at_rest pieces ≡ true
passes_rest [] last = refl
passes_rest (Lit text ∷ pieces) last = passes_rest pieces (rest_last (Lit text) pieces last)
passes_rest (Field kind ∷ []) last = refl
passes_rest (Field Rest ∷ p ∷ pieces) last = absurd (last 0 (refl, omega arith))
passes_rest (Field Len ∷ p ∷ pieces) last = passes_rest (p ∷ pieces) (rest_last (Field Len) (p ∷ pieces) last)
passes_rest (Field Net ∷ p ∷ pieces) last = passes_rest (p ∷ pieces) (rest_last (Field Net) (p ∷ pieces) last)
passes_rest (Field Hex ∷ p ∷ pieces) last = passes_rest (p ∷ pieces) (rest_last (Field Hex) (p ∷ pieces) last)

literals_test : (pieces : List Piece) → list_all is_bytes_piece pieces ≡ true → AllByRecursion IsBytesPiece pieces
literals_test [] passes = tt
literals_test (Lit text ∷ pieces) passes = let parts = and_parts (is_bytes text) (list_all is_bytes_piece pieces) passes in (IsBytes-pass text parts.0, literals_test pieces parts.1)
literals_test (Field kind ∷ pieces) passes = (tt, literals_test pieces passes)

pub passes_literals : (pieces : List Piece) → AllByRecursion IsBytesPiece pieces → list_all is_bytes_piece pieces ≡ true
passes_literals [] all = refl
passes_literals (Lit text ∷ pieces) all = rw (is_bytes-IsBytes text all.0, passes_literals pieces all.1) refl
passes_literals (Field kind ∷ pieces) all = passes_literals pieces all.1

some_byte : (xs : List ℕ) → nat_lt 0 (length xs) ≡ true → xs ≡ [] → ⊥
some_byte xs passes e = let f = rw e at passes in cc

byte_some : (xs : List ℕ) → (xs ≡ [] → ⊥) → nat_lt 0 (length xs) ≡ true
byte_some [] h = absurd (h refl)
byte_some (x ∷ xs) h = grind (arith, nat_tests)

pub sound_test : (pieces : List Piece) → is_sound pieces ≡ true → IsSound pieces
sound_test pieces passes =
    let outer = and_parts (nat_lt 0 (length (head pieces)) && ends_at_rest pieces) (list_all is_bytes_piece pieces) passes in
    let inner = and_parts (nat_lt 0 (length (head pieces))) (ends_at_rest pieces) outer.0 in record {
      head_stands = some_byte (head pieces) inner.0;
      rest_is_last = rest_test pieces inner.1;
      literals = literals_test pieces outer.1;
    }

pub passes_sound : (pieces : List Piece) → IsSound pieces → is_sound pieces ≡ true
passes_sound pieces h = rw (byte_some (head pieces) h.head_stands, passes_rest pieces h.rest_is_last, passes_literals pieces h.literals) refl
