-- Who looks where a row's pieces seem to stand, and compares nothing, reads the right arguments.
use Rattle.std.proofs.Common.{◌≡◌, ◌≢◌, ◌<◌, ◌+◌, ◌*◌, ◌/◌, ◌%◌, ◌==◌, ℕ, zero, suc, Bool, true, false, List, [], ◌∷◌, ◌++◌, length, take, drop, slice_index, Option, Some, None, if◌then◌else◌, refl, ap, sym, ◌∙◌, arith, append_assoc, append-nil}
use Rattle.std.specs.List.{AllByRecursion}
use Rattle.std.specs.Str.{bytes_eq}
use Rattle.std.proofs.lemmas.Bool.Decides.{nat_tests}
use Rattle.std.proofs.lemmas.List.{drop_all, drop_at, take_all, take_at}
use Rattle.hex.specs.Hex.{encode_lower, encode_upper, encode_with, hex_digit_value}
use Rattle.hex.proofs.HexLemmas.{IsDigits, IsDigits-upper_digits}
use Rattle.anb_base.specs.Bytes.{IsBytes}
use Rattle.anb_format.specs.declared.pieces.FieldKind.{FieldKind}
use Rattle.anb_format.specs.declared.pieces.FieldKind.TheVariants.{Len, Net, Hex, Rest}
use Rattle.anb_format.specs.declared.pieces.Piece.{Piece}
use Rattle.anb_format.specs.declared.pieces.Piece.TheVariants.{Lit, Field}
use Rattle.anb_format.specs.Fields.{decimal_digits, field_bytes, leb128, net_bytes}
use Rattle.anb_format.specs.Formats.{IsSound, field_count, format_bytes}
use Rattle.anb_format.specs.Reading.{arguments_at, decimal_at, field_at, hex_at, leb128_at}
use Rattle.anb_format.proofs.Decimals.{decimal_again}
use Rattle.anb_format.proofs.Leb128.{leb128_again}
use Rattle.anb_format.proofs.ReadingLemmas.{RestIsLast, after_one, arguments_again, field_again, net_regrouped, nothing_follows, rest_last}
use Rattle.anb_lemmas.proofs.Numbers.{nat_eq-differs}
use Rattle.anb_lemmas.proofs.Options.{mapped_from}
use Rattle.anb_spoil.specs.Changes.{changed_by, last_changed}
use Rattle.anb_spoil.specs.Laws.{hides_an_end}
use Rattle.anb_spoil.specs.Rows.{arguments_from, has_rest, long_leb128, spoilt, with_piece, wrong_hex, wrong_len, wrong_literal, wrong_net, wrong_piece}
use Rattle.anb_spoil.specs.declared.rows.Row.{Row}
use Rattle.anb_spoil.specs.declared.rows.Row.TheVariants.{At, Behind}
use Rattle.anb_spoil.specs.declared.rows.Spoiling.{Spoiling}
use Rattle.anb_spoil.specs.declared.rows.Spoiling.TheVariants.{OtherByte, LongLength, LengthBeyond, LeadingZero, Semicolon, Dot, Capitals, Comma}
use Rattle.anb_spoil.proofs.Digits.{digit_is_none, long_again}
use Rattle.anb_spoil.proofs.Peeling.{ends_itself}
use Rattle.anb_spoil.proofs.Refusing.{behind_field, behind_literal, from_behind, no_piece}
use Rattle.anb_spoil.proofs.Standing.{literal_long, passed_by}

-- ---- one field

len_near : (spoiling : Spoiling) (last : Bool) (b wrong ys : List ℕ) → wrong_len spoiling last b ≡ Some wrong → (last ≡ true → ys ≡ []) → field_at Len (wrong ++ ys) ≡ (b, ys)
len_near LongLength last b wrong ys e none =
    let is : long_leb128 (length b) ++ b ≡ wrong = cc in
    let read : leb128_at (wrong ++ ys) ≡ (length b, b ++ ys) =
    ap (λ (t : List ℕ). leb128_at (t ++ ys)) (sym is) ∙ ap leb128_at (append_assoc (long_leb128 (length b)) b ys) ∙ long_again (length b) (b ++ ys) in
    rw (read, take_at b ys (length b) refl, drop_at b ys (length b) refl) refl
len_near LengthBeyond true b wrong ys e none =
    let is : leb128 (length b + 1) ++ b ≡ wrong = cc in
    let read : leb128_at (wrong ++ ys) ≡ (length b + 1, b ++ ys) =
    ap (λ (t : List ℕ). leb128_at (t ++ ys)) (sym is) ∙ ap leb128_at (append_assoc (leb128 (length b + 1)) b ys) ∙ leb128_again (length b + 1) (b ++ ys) in
    let flat : b ++ ys ≡ b = ap (λ (t : List ℕ). b ++ t) (none refl) ∙ append-nil b in
    rw (read, flat, take_all (length b + 1) b (omega arith), drop_all (length b + 1) b (omega arith)) (ap (λ (t : List ℕ). (b, t)) (sym (none refl)))
len_near LengthBeyond false b wrong ys e none = absurd (cc)
len_near spoiling last b wrong ys e none = absurd (cc)

net_near : (spoiling : Spoiling) (b wrong ys : List ℕ) → (spoiling ≡ Semicolon → ⊥) → wrong_net spoiling b ≡ Some wrong → field_at Net (wrong ++ ys) ≡ (b, ys)
net_near LeadingZero b wrong ys seen e =
    let is : 48 ∷ net_bytes b ≡ wrong = cc in
    let zeroed : decimal_at 0 (48 ∷ (net_bytes b ++ ys)) ≡ (length b, b ++ 44 ∷ ys) = ap (decimal_at 0) (net_regrouped b ys) ∙ decimal_again (length b) (b ++ 44 ∷ ys) in
    let read : decimal_at 0 (wrong ++ ys) ≡ (length b, b ++ 44 ∷ ys) = ap (λ (t : List ℕ). decimal_at 0 (t ++ ys)) (sym is) ∙ zeroed in
    rw (read, take_at b (44 ∷ ys) (length b) refl, after_one b ys 44) refl
net_near Semicolon b wrong ys seen e = absurd (seen refl)
net_near Dot b wrong ys seen e =
    let is : decimal_digits (length b) ++ 58 ∷ b ++ 46 ∷ [] ≡ wrong = cc in
    let flat : (decimal_digits (length b) ++ 58 ∷ b ++ 46 ∷ []) ++ ys ≡ decimal_digits (length b) ++ 58 ∷ (b ++ 46 ∷ ys) = simp append_assoc in
    let read : decimal_at 0 (wrong ++ ys) ≡ (length b, b ++ 46 ∷ ys) =
    ap (λ (t : List ℕ). decimal_at 0 (t ++ ys)) (sym is) ∙ ap (decimal_at 0) flat ∙ decimal_again (length b) (b ++ 46 ∷ ys) in
    rw (read, take_at b (46 ∷ ys) (length b) refl, after_one b ys 46) refl
net_near spoiling b wrong ys seen e = absurd (cc)

-- digits of either table are read as their bytes
hex_read : (t : List ℕ) → IsDigits t → (bytes rest : List ℕ) → IsBytes bytes → hex_at (encode_with t bytes ++ 59 ∷ rest) ≡ (bytes, rest)
unfolding encode_with
hex_read t digits [] [] small = refl
hex_read t digits [] (x ∷ rest) small = refl
hex_read t digits (b ∷ bytes) rest small =
    let first : b < 256 = small 0 in
    let other : slice_index t (b / 16) ≢ 59 = digit_is_none (slice_index t (b / 16)) (b / 16) (digits (b / 16) (omega arith)) in
    let absent : (slice_index t (b / 16) == 59) ≡ false = grind (arith, nat_tests) in
    let high : hex_digit_value (slice_index t (b / 16)) ≡ Some (b / 16) = digits (b / 16) (omega arith) in
    let low : hex_digit_value (slice_index t (b % 16)) ≡ Some (b % 16) = digits (b % 16) (omega arith) in
    let value : b / 16 * 16 + b % 16 ≡ b = omega arith in
    rw (absent, high, low, hex_read t digits bytes rest (λ i. small (suc i)), value) refl

hex_near : (spoiling : Spoiling) (b wrong ys : List ℕ) → IsBytes b → (spoiling ≡ Comma → ⊥) → wrong_hex spoiling b ≡ Some wrong → field_at Hex (wrong ++ ys) ≡ (b, ys)
hex_near Capitals b wrong ys small seen e =
    let found = passed_by (bytes_eq (encode_upper b) (encode_lower b)) (encode_upper b ++ 59 ∷ []) wrong e in
    ap (λ (t : List ℕ). hex_at (t ++ ys)) (sym found.1) ∙ ap hex_at (append_assoc (encode_upper b) (59 ∷ []) ys) ∙ hex_read _ IsDigits-upper_digits b ys small
hex_near Comma b wrong ys small seen e = absurd (seen refl)
hex_near spoiling b wrong ys small seen e = absurd (cc)

-- ---- a piece and what follows it

-- a field that was read, and the arguments behind it
field_then : (kind : FieldKind) (pieces : List Piece) (b bytes : List ℕ) (arguments : List (List ℕ)) → field_at kind bytes ≡ (b, format_bytes pieces arguments)
    → RestIsLast pieces → length arguments ≡ field_count pieces → AllByRecursion IsBytes arguments → arguments_at (Field kind ∷ pieces) bytes ≡ b ∷ arguments
field_then kind pieces b bytes arguments read last count small =
    rw read (ap (λ (t : List (List ℕ)). b ∷ t) (arguments_again pieces arguments last count small))

nothing_last : (pieces : List Piece) (arguments : List (List ℕ)) → (length pieces == 0) ≡ true → format_bytes pieces arguments ≡ []
nothing_last [] arguments e = refl
nothing_last (piece ∷ pieces) arguments e = let differs = nat_eq-differs (length (piece ∷ pieces)) 0 (λ z. omega (arith, z)) in absurd (cc)

-- one argument is dropped for one field
one_dropped : (kind : FieldKind) (pieces : List Piece) (b : List ℕ) (arguments : List (List ℕ)) → arguments_from 1 (Field kind ∷ pieces) (b ∷ arguments) ≡ arguments
one_dropped kind pieces b arguments = refl

piece_near : (spoiling : Spoiling) (piece : Piece) (pieces : List Piece) (arguments : List (List ℕ)) (wrong : List ℕ) → (spoiling ≡ Semicolon → ⊥) → (spoiling ≡ Comma → ⊥)
    → RestIsLast (piece ∷ pieces) → length arguments ≡ field_count (piece ∷ pieces) → AllByRecursion IsBytes arguments
    → wrong_piece spoiling (piece ∷ pieces) arguments ≡ Some wrong
    → arguments_at (piece ∷ pieces) (wrong ++ format_bytes pieces (arguments_from 1 (piece ∷ pieces) arguments)) ≡ arguments
piece_near OtherByte (Lit text) pieces arguments wrong colon semicolon last count small e =
    rw (drop_at wrong (format_bytes pieces arguments) (length text) (literal_long text wrong e)) (arguments_again pieces arguments (rest_last _ pieces last) count small)
piece_near spoiling (Lit text) pieces arguments wrong colon semicolon last count small e = absurd (cc)
piece_near spoiling (Field kind) pieces [] wrong colon semicolon last count small e = absurd (omega (arith, count))
piece_near spoiling (Field Len) pieces (b ∷ arguments) wrong colon semicolon last count small e =
    field_then Len pieces b (wrong ++ format_bytes pieces arguments) arguments (len_near spoiling (length pieces == 0) b wrong (format_bytes pieces arguments) e (nothing_last pieces arguments)) (rest_last _ pieces last) (omega (arith, count)) small.1
piece_near spoiling (Field Net) pieces (b ∷ arguments) wrong colon semicolon last count small e =
    field_then Net pieces b (wrong ++ format_bytes pieces arguments) arguments (net_near spoiling b wrong (format_bytes pieces arguments) colon e) (rest_last _ pieces last) (omega (arith, count)) small.1
piece_near spoiling (Field Hex) pieces (b ∷ arguments) wrong colon semicolon last count small e =
    field_then Hex pieces b (wrong ++ format_bytes pieces arguments) arguments (hex_near spoiling b wrong (format_bytes pieces arguments) small.0 semicolon e) (rest_last _ pieces last) (omega (arith, count)) small.1
piece_near spoiling (Field Rest) pieces (b ∷ arguments) wrong colon semicolon last count small e = absurd (cc)

-- ---- the pieces before it

near_at : (i : ℕ) (spoiling : Spoiling) (pieces : List Piece) (arguments : List (List ℕ)) (wrong : List ℕ) → (spoiling ≡ Semicolon → ⊥) → (spoiling ≡ Comma → ⊥)
    → RestIsLast pieces → length arguments ≡ field_count pieces → AllByRecursion IsBytes arguments
    → wrong_piece spoiling (drop i pieces) (arguments_from i pieces arguments) ≡ Some wrong
    → arguments_at pieces (with_piece pieces i arguments wrong) ≡ arguments
near_at zero spoiling [] arguments wrong colon semicolon last count small e = absurd (cc)
near_at (suc i) spoiling [] arguments wrong colon semicolon last count small e = absurd (cc)
near_at zero spoiling (piece ∷ pieces) arguments wrong colon semicolon last count small e = piece_near spoiling piece pieces arguments wrong colon semicolon last count small e
near_at (suc i) spoiling (Lit text ∷ pieces) arguments wrong colon semicolon last count small e =
    rw (behind_literal text pieces i arguments wrong, drop_at text (with_piece pieces i arguments wrong) (length text) refl)
    (near_at i spoiling pieces arguments wrong colon semicolon (rest_last _ pieces last) count small e)
near_at (suc i) spoiling (Field kind ∷ pieces) [] wrong colon semicolon last count small e = absurd (omega (arith, count))
near_at (suc i) spoiling (Field kind ∷ pieces) (b ∷ arguments) wrong colon semicolon last count small e =
    let here = ap (wrong_piece spoiling (drop i pieces)) (sym (from_behind kind pieces i b arguments)) ∙ e in
    let ends : kind ≡ Rest → ⊥ = λ r. no_piece i spoiling pieces (arguments_from i pieces arguments) wrong (nothing_follows kind pieces r last) here in
    let read = field_again kind b (with_piece pieces i arguments wrong) small.0 (λ r. absurd (ends r)) in
    rw (behind_field kind pieces i b arguments wrong, read)
    (ap (λ (t : List (List ℕ)). b ∷ t) (near_at i spoiling pieces arguments wrong colon semicolon (rest_last _ pieces last) (omega (arith, count)) small.1 here))

-- ---- a byte behind the end

near_end : (pieces : List Piece) (arguments : List (List ℕ)) (more : List ℕ) → has_rest pieces ≡ false → length arguments ≡ field_count pieces → AllByRecursion IsBytes arguments
    → arguments_at pieces (format_bytes pieces arguments ++ more) ≡ arguments
near_end [] [] more told count small = refl
near_end [] (b ∷ arguments) more told count small = absurd (omega (arith, count))
near_end (Lit text ∷ pieces) arguments more told count small =
    rw (append_assoc text (format_bytes pieces arguments) more, drop_at text (format_bytes pieces arguments ++ more) (length text) refl) (near_end pieces arguments more told count small)
near_end (Field kind ∷ pieces) [] more told count small = absurd (omega (arith, count))
near_end (Field kind ∷ pieces) (b ∷ arguments) more told count small =
    let ends = ends_itself kind pieces told in
    let read = field_again kind b (format_bytes pieces arguments ++ more) small.0 (λ r. absurd (ends.0 r)) in
    rw (append_assoc (field_bytes kind b) (format_bytes pieces arguments) more, read)
    (ap (λ (t : List (List ℕ)). b ∷ t) (near_end pieces arguments more ends.1 (omega (arith, count)) small.1))

-- ---- a row

not_hidden : (spoiling hidden : Spoiling) (i : ℕ) → hides_an_end (At i hidden) ≡ true → hides_an_end (At i spoiling) ≡ false → spoiling ≡ hidden → ⊥
not_hidden spoiling hidden i is isnt same = let both : true ≡ false = sym is ∙ sym (ap (λ (s : Spoiling). hides_an_end (At i s)) same) ∙ isnt in cc

pub rows_near : (pieces : List Piece) → RestIsLast pieces → (row : Row) (arguments : List (List ℕ)) → length arguments ≡ field_count pieces
    → AllByRecursion IsBytes arguments → (bytes : List ℕ) → spoilt pieces row arguments ≡ Some bytes → hides_an_end row ≡ false → arguments_at pieces bytes ≡ arguments
rows_near pieces last (At i spoiling) arguments count small bytes e told =
    let found = mapped_from (with_piece pieces i arguments) (wrong_piece spoiling (drop i pieces) (arguments_from i pieces arguments)) bytes e in
    ap (arguments_at pieces) (sym found.2)
    ∙ near_at i spoiling pieces arguments found.0 (not_hidden spoiling Semicolon i refl told) (not_hidden spoiling Comma i refl told) last count small found.1
rows_near pieces last Behind arguments count small bytes e told =
    let found = passed_by (has_rest pieces) (format_bytes pieces arguments ++ 0 ∷ []) bytes e in
    ap (arguments_at pieces) (sym found.1) ∙ near_end pieces arguments (0 ∷ []) found.0 count small
