-- A piece in a wrong way can't stand where the piece is read.
use Rattle.std.proofs.Common.{◌≡◌, ◌≢◌, ◌<◌, ◌+◌, ◌==◌, ℕ, suc, Bool, true, false, nat_lt, List, [], ◌∷◌, ◌++◌, length, take, drop, Option, Some, None, if◌then◌else◌, refl, ap, sym, ◌∙◌, arith, append_assoc, append-nil, length-append}
use Rattle.std.specs.List.{AllByRecursion}
use Rattle.std.specs.Str.{bytes_eq}
use Rattle.std.proofs.lemmas.List.{drop_at, take_at}
use Rattle.hex.specs.Hex.{encode_lower, encode_upper}
use Rattle.anb_base.specs.Bytes.{IsBytes}
use Rattle.anb_format.specs.declared.pieces.FieldKind.{FieldKind}
use Rattle.anb_format.specs.declared.pieces.FieldKind.TheVariants.{Len, Net, Hex, Rest}
use Rattle.anb_format.specs.declared.pieces.Piece.{Piece}
use Rattle.anb_format.specs.declared.pieces.Piece.TheVariants.{Lit, Field}
use Rattle.anb_format.specs.Fields.{decimal_digits, field_bytes, leb128, net_bytes}
use Rattle.anb_format.specs.Formats.{field_count, format_bytes}
use Rattle.anb_format.specs.Reading.{decimal_at, leb128_at}
use Rattle.anb_format.proofs.Decimals.{decimal_again}
use Rattle.anb_format.proofs.Leb128.{leb128_again}
use Rattle.anb_format.proofs.ReadingLemmas.{hex_regrouped, net_regrouped}
use Rattle.anb_lemmas.proofs.Items.{bytes_eq-same}
use Rattle.anb_lemmas.proofs.Numbers.{nat_eq-differs}
use Rattle.anb_lemmas.proofs.Options.{guard_passed}
use Rattle.anb_spoil.specs.Changes.{changed_by, last_changed}
use Rattle.anb_spoil.specs.Rows.{long_leb128, wrong_hex, wrong_len, wrong_literal, wrong_net, wrong_piece}
use Rattle.anb_spoil.specs.declared.changes.Change.TheVariants.{LastByte}
use Rattle.anb_spoil.specs.declared.rows.Spoiling.{Spoiling}
use Rattle.anb_spoil.specs.declared.rows.Spoiling.TheVariants.{OtherByte, LongLength, LengthBeyond, LeadingZero, Semicolon, Dot, Capitals, Comma}
use Rattle.anb_spoil.proofs.Changing.{changes_differ, last_differs, length-last_changed}
use Rattle.anb_spoil.proofs.Digits.{digits_below, length-long_leb128, long_again, lower_are_digits, one_string, seam, sign_is_none, upper_are_digits, IsDigit}

pair_first : (n m : ℕ) (xs ys : List ℕ) → ◌≡◌ {A = ℕ × List ℕ} (n, xs) (m, ys) → (n ≡ m) × (xs ≡ ys)
pair_first n m xs ys e = (ap (λ (p : ℕ × List ℕ). p.0) e, ap (λ (p : ℕ × List ℕ). p.1) e)

-- ---- a literal

pub literal_long : (text wrong : List ℕ) → changed_by LastByte text ≡ Some wrong → length wrong ≡ length text
literal_long text wrong e =
    let found = guard_passed (nat_lt 0 (length text)) (Some (last_changed text)) wrong e in
    let is : last_changed text ≡ wrong = let h = found.1 in cc in sym (ap length is) ∙ length-last_changed text

literal_differs : (spoiling : Spoiling) (text wrong xs ys : List ℕ) → wrong_literal spoiling text ≡ Some wrong → text ++ xs ≡ wrong ++ ys → ⊥
literal_differs OtherByte text wrong xs ys e same =
    let long : length wrong ≡ length text = literal_long text wrong e in
    let front : text ≡ wrong = sym (take_at text xs (length text) refl) ∙ ap (take (length text)) same ∙ take_at wrong ys (length text) long in
    changes_differ LastByte text wrong e (sym front)
literal_differs spoiling text wrong xs ys e same = absurd (cc)

-- ---- a `len`

long_length_differs : (b c xs ys : List ℕ) → (leb128 (length c) ++ c) ++ xs ≡ (long_leb128 (length b) ++ b) ++ ys → ⊥
long_length_differs b c xs ys e =
    let flat : leb128 (length c) ++ (c ++ xs) ≡ long_leb128 (length b) ++ (b ++ ys) = sym (append_assoc (leb128 (length c)) c xs) ∙ e ∙ append_assoc (long_leb128 (length b)) b ys in
    let read = sym (leb128_again (length c) (c ++ xs)) ∙ ap leb128_at flat ∙ long_again (length b) (b ++ ys) in
    let both = pair_first (length c) (length b) (c ++ xs) (b ++ ys) read in
    omega (arith, ap length flat, ap length both.1, ap (λ (n : ℕ). length (leb128 n)) both.0, length-long_leb128 (length b), length-append (leb128 (length c)) (c ++ xs), length-append (long_leb128 (length b)) (b ++ ys))

length_beyond_differs : (b c : List ℕ) → (leb128 (length c) ++ c) ++ [] ≡ (leb128 (length b + 1) ++ b) ++ [] → ⊥
length_beyond_differs b c e =
    let flat : leb128 (length c) ++ c ≡ leb128 (length b + 1) ++ b = sym (append-nil (leb128 (length c) ++ c)) ∙ e ∙ append-nil (leb128 (length b + 1) ++ b) in
    let read = sym (leb128_again (length c) c) ∙ ap leb128_at flat ∙ leb128_again (length b + 1) b in
    let both = pair_first (length c) (length b + 1) c b read in
    omega (arith, both.0, ap length both.1)

len_differs : (spoiling : Spoiling) (last : Bool) (b c wrong xs ys : List ℕ) → wrong_len spoiling last b ≡ Some wrong → (last ≡ true → (xs ≡ []) × (ys ≡ []))
    → field_bytes Len c ++ xs ≡ wrong ++ ys → ⊥
len_differs LongLength last b c wrong xs ys e ends same =
    let is : long_leb128 (length b) ++ b ≡ wrong = cc in
    long_length_differs b c xs ys (same ∙ ap (λ (t : List ℕ). t ++ ys) (sym is))
len_differs LengthBeyond true b c wrong xs ys e ends same =
    let is : leb128 (length b + 1) ++ b ≡ wrong = cc in
    let none = ends refl in
    length_beyond_differs b c (ap (λ (t : List ℕ). field_bytes Len c ++ t) (sym none.0) ∙ same ∙ ap (λ (t : List ℕ). t ++ ys) (sym is) ∙ ap (λ (t : List ℕ). (leb128 (length b + 1) ++ b) ++ t) none.1)
len_differs LengthBeyond false b c wrong xs ys e ends same = absurd (cc)
len_differs spoiling last b c wrong xs ys e ends same = absurd (cc)

-- ---- a `net`

leading_zero_differs : (b c xs ys : List ℕ) → net_bytes c ++ xs ≡ (48 ∷ net_bytes b) ++ ys → ⊥
leading_zero_differs b c xs ys e =
    let left : net_bytes c ++ xs ≡ decimal_digits (length c) ++ 58 ∷ (c ++ 44 ∷ xs) = net_regrouped c xs in
    let right : net_bytes b ++ ys ≡ decimal_digits (length b) ++ 58 ∷ (b ++ 44 ∷ ys) = net_regrouped b ys in
    let flat : decimal_digits (length c) ++ 58 ∷ (c ++ 44 ∷ xs) ≡ 48 ∷ (decimal_digits (length b) ++ 58 ∷ (b ++ 44 ∷ ys)) =
    sym left ∙ e ∙ ap (λ (t : List ℕ). 48 ∷ t) right in
    let zeroed : decimal_at 0 (48 ∷ (decimal_digits (length b) ++ 58 ∷ (b ++ 44 ∷ ys))) ≡ (length b, b ++ 44 ∷ ys) = decimal_again (length b) (b ++ 44 ∷ ys) in
    let read = sym (decimal_again (length c) (c ++ 44 ∷ xs)) ∙ ap (decimal_at 0) flat ∙ zeroed in
    let both = pair_first (length c) (length b) (c ++ 44 ∷ xs) (b ++ 44 ∷ ys) read in
    omega (arith, ap length flat, ap length both.1, ap (λ (n : ℕ). length (decimal_digits n)) both.0, length-append (decimal_digits (length c)) (58 ∷ (c ++ 44 ∷ xs)), length-append (decimal_digits (length b)) (58 ∷ (b ++ 44 ∷ ys)))

semicolon_differs : (b c xs ys : List ℕ) → net_bytes c ++ xs ≡ (decimal_digits (length b) ++ 59 ∷ b ++ 44 ∷ []) ++ ys → ⊥
semicolon_differs b c xs ys e =
    let right : (decimal_digits (length b) ++ 59 ∷ b ++ 44 ∷ []) ++ ys ≡ decimal_digits (length b) ++ 59 ∷ (b ++ 44 ∷ ys) = simp append_assoc in
    let flat = sym (net_regrouped c xs) ∙ e ∙ right in
    let found = seam (λ d. d < 58) 58 59 (λ h. omega (arith, h)) (λ h. omega (arith, h)) (decimal_digits (length c)) (decimal_digits (length b)) (c ++ 44 ∷ xs) (b ++ 44 ∷ ys) (digits_below (length c)) (digits_below (length b)) flat in
    omega (arith, found.1)

dot_differs : (b c xs ys : List ℕ) → net_bytes c ++ xs ≡ (decimal_digits (length b) ++ 58 ∷ b ++ 46 ∷ []) ++ ys → ⊥
dot_differs b c xs ys e =
    let right : (decimal_digits (length b) ++ 58 ∷ b ++ 46 ∷ []) ++ ys ≡ decimal_digits (length b) ++ 58 ∷ (b ++ 46 ∷ ys) = simp append_assoc in
    let flat = sym (net_regrouped c xs) ∙ e ∙ right in
    let read = sym (decimal_again (length c) (c ++ 44 ∷ xs)) ∙ ap (decimal_at 0) flat ∙ decimal_again (length b) (b ++ 46 ∷ ys) in
    let both = pair_first (length c) (length b) (c ++ 44 ∷ xs) (b ++ 46 ∷ ys) read in
    let after : 44 ∷ xs ≡ 46 ∷ ys = sym (drop_at c (44 ∷ xs) (length c) refl) ∙ ap (drop (length c)) both.1 ∙ drop_at b (46 ∷ ys) (length c) (sym both.0) in
    let bad : ◌≡◌ {A = ℕ} 44 46 = cc in omega (arith, bad)

net_differs : (spoiling : Spoiling) (b c wrong xs ys : List ℕ) → wrong_net spoiling b ≡ Some wrong → field_bytes Net c ++ xs ≡ wrong ++ ys → ⊥
net_differs LeadingZero b c wrong xs ys e same =
    let is : 48 ∷ net_bytes b ≡ wrong = cc in
    leading_zero_differs b c xs ys (same ∙ ap (λ (t : List ℕ). t ++ ys) (sym is))
net_differs Semicolon b c wrong xs ys e same =
    let is : decimal_digits (length b) ++ 59 ∷ b ++ 44 ∷ [] ≡ wrong = cc in
    semicolon_differs b c xs ys (same ∙ ap (λ (t : List ℕ). t ++ ys) (sym is))
net_differs Dot b c wrong xs ys e same =
    let is : decimal_digits (length b) ++ 58 ∷ b ++ 46 ∷ [] ≡ wrong = cc in
    dot_differs b c xs ys (same ∙ ap (λ (t : List ℕ). t ++ ys) (sym is))
net_differs spoiling b c wrong xs ys e same = absurd (cc)

-- ---- a `hex`

capitals_differ : (b c xs ys : List ℕ) → IsBytes b → IsBytes c → bytes_eq (encode_upper b) (encode_lower b) ≡ false
    → field_bytes Hex c ++ xs ≡ (encode_upper b ++ 59 ∷ []) ++ ys → ⊥
capitals_differ b c xs ys small other differ e =
    let flat : encode_lower c ++ 59 ∷ xs ≡ encode_upper b ++ 59 ∷ ys = sym (hex_regrouped c xs) ∙ e ∙ append_assoc (encode_upper b) (59 ∷ []) ys in
    let found = seam IsDigit 59 59 (sign_is_none 59 refl) (sign_is_none 59 refl) (encode_lower c) (encode_upper b) xs ys (lower_are_digits c other) (upper_are_digits b small) flat in
    let one = one_string b c small other (sym found.0) in
    let same : encode_upper b ≡ encode_lower b = sym found.0 ∙ ap encode_lower (sym one) in
    let equal : bytes_eq (encode_upper b) (encode_lower b) ≡ true = ap (bytes_eq (encode_upper b)) (sym same) ∙ bytes_eq-same (encode_upper b) in cc

comma_differs : (b c xs ys : List ℕ) → IsBytes b → IsBytes c → field_bytes Hex c ++ xs ≡ (encode_lower b ++ 44 ∷ []) ++ ys → ⊥
comma_differs b c xs ys small other e =
    let flat : encode_lower c ++ 59 ∷ xs ≡ encode_lower b ++ 44 ∷ ys = sym (hex_regrouped c xs) ∙ e ∙ append_assoc (encode_lower b) (44 ∷ []) ys in
    let found = seam IsDigit 59 44 (sign_is_none 59 refl) (sign_is_none 44 refl) (encode_lower c) (encode_lower b) xs ys (lower_are_digits c other) (lower_are_digits b small) flat in
    omega (arith, found.1)

-- what stands where the digits have letters
pub passed_by : (test : Bool) (this wrong : List ℕ) → (if test then None else Some this) ≡ Some wrong → (test ≡ false) × (this ≡ wrong)
passed_by true this wrong e = absurd (cc)
passed_by false this wrong e = (refl, cc)

hex_differs : (spoiling : Spoiling) (b c wrong xs ys : List ℕ) → IsBytes b → IsBytes c → wrong_hex spoiling b ≡ Some wrong → field_bytes Hex c ++ xs ≡ wrong ++ ys → ⊥
hex_differs Capitals b c wrong xs ys small other e same =
    let found = passed_by (bytes_eq (encode_upper b) (encode_lower b)) (encode_upper b ++ 59 ∷ []) wrong e in
    capitals_differ b c xs ys small other found.0 (same ∙ ap (λ (t : List ℕ). t ++ ys) (sym found.1))
hex_differs Comma b c wrong xs ys small other e same =
    let is : encode_lower b ++ 44 ∷ [] ≡ wrong = cc in
    comma_differs b c xs ys small other (same ∙ ap (λ (t : List ℕ). t ++ ys) (sym is))
hex_differs spoiling b c wrong xs ys small other e same = absurd (cc)

-- ---- a piece

-- where a piece ends the format, nothing follows
ends_so : (pieces : List Piece) (others : List (List ℕ)) (ys : List ℕ) → (pieces ≡ [] → ys ≡ []) → (length pieces == 0) ≡ true → (format_bytes pieces others ≡ []) × (ys ≡ [])
ends_so [] others ys none e = (refl, none refl)
ends_so (piece ∷ pieces) others ys none e = let differs = nat_eq-differs (length (piece ∷ pieces)) 0 (λ z. omega (arith, z)) in absurd (cc)

pub piece_differs : (spoiling : Spoiling) (piece : Piece) (pieces : List Piece) (arguments others : List (List ℕ)) (wrong ys : List ℕ)
    → AllByRecursion IsBytes arguments → AllByRecursion IsBytes others → length others ≡ field_count (piece ∷ pieces) → (pieces ≡ [] → ys ≡ [])
    → wrong_piece spoiling (piece ∷ pieces) arguments ≡ Some wrong → format_bytes (piece ∷ pieces) others ≡ wrong ++ ys → ⊥
piece_differs spoiling (Lit text) pieces arguments others wrong ys small other count none e same = literal_differs spoiling text wrong (format_bytes pieces others) ys e same
piece_differs spoiling (Field kind) pieces arguments [] wrong ys small other count none e same = absurd (omega (arith, count))
piece_differs spoiling (Field Len) pieces [] (c ∷ others) wrong ys small other count none e same = absurd (cc)
piece_differs spoiling (Field Net) pieces [] (c ∷ others) wrong ys small other count none e same = absurd (cc)
piece_differs spoiling (Field Hex) pieces [] (c ∷ others) wrong ys small other count none e same = absurd (cc)
piece_differs spoiling (Field Rest) pieces [] (c ∷ others) wrong ys small other count none e same = absurd (cc)
piece_differs spoiling (Field Len) pieces (b ∷ arguments) (c ∷ others) wrong ys small other count none e same =
    len_differs spoiling (length pieces == 0) b c wrong (format_bytes pieces others) ys e (ends_so pieces others ys none) same
piece_differs spoiling (Field Net) pieces (b ∷ arguments) (c ∷ others) wrong ys small other count none e same = net_differs spoiling b c wrong (format_bytes pieces others) ys e same
piece_differs spoiling (Field Hex) pieces (b ∷ arguments) (c ∷ others) wrong ys small other count none e same =
    hex_differs spoiling b c wrong (format_bytes pieces others) ys small.0 other.0 e same
piece_differs spoiling (Field Rest) pieces (b ∷ arguments) (c ∷ others) wrong ys small other count none e same = absurd (cc)
