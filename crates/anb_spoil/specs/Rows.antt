-- Bytes of a format that are spoilt in one way, and in what ways they can be.
use Rattle.std.specs.Prelude.{ℕ, ◌+◌, ◌%◌, ◌==◌, List, [], ◌∷◌, ◌++◌, length, take, drop, map, Option, Some, None, Bool, true, false, if◌then◌else◌}
use Rattle.std.specs.Option.{option_map}
use Rattle.std.specs.Str.{bytes_eq}
use Rattle.hex.specs.Hex.{encode_lower, encode_upper}
use Rattle.anb_format.specs.Fields.{decimal_digits, leb128, net_bytes}
use Rattle.anb_format.specs.Formats.{field_count, format_bytes}
use Rattle.anb_format.specs.declared.pieces.FieldKind.TheVariants.{Len, Net, Hex, Rest}
use Rattle.anb_format.specs.declared.pieces.Piece.{Piece}
use Rattle.anb_format.specs.declared.pieces.Piece.TheVariants.{Lit, Field}
use Rattle.anb_spoil.specs.Changes.{changed_by}
use Rattle.anb_spoil.specs.declared.changes.Change.TheVariants.{LastByte}
use Rattle.anb_spoil.specs.declared.rows.Spoiling.{Spoiling}
use Rattle.anb_spoil.specs.declared.rows.Spoiling.TheVariants.{OtherByte, LongLength, LengthBeyond, LeadingZero, Semicolon, Dot, Capitals, Comma}
use Rattle.anb_spoil.specs.declared.rows.Row.{Row}
use Rattle.anb_spoil.specs.declared.rows.Row.TheVariants.{At, Behind}

-- ---- one piece in a wrong way

-- n in one byte of LEB128 more than needed: the high bit is set on each byte, and a zero byte follows
abbrev pub long_leb128 : ℕ → List ℕ
long_leb128 n = map (λ b. 128 + b % 128) (leb128 n) ++ 0 ∷ []

-- a literal
abbrev pub wrong_literal : Spoiling → List ℕ → Option (List ℕ)
wrong_literal OtherByte text = changed_by LastByte text
wrong_literal spoiling text = None

-- a `len` of b, which ends the format or doesn't
abbrev pub wrong_len : Spoiling → Bool → List ℕ → Option (List ℕ)
wrong_len LongLength last b = Some (long_leb128 (length b) ++ b)
wrong_len LengthBeyond last b = if last then Some (leb128 (length b + 1) ++ b) else None
wrong_len spoiling last b = None

-- a `net` of b: a zero in front, `;` for `:`, `.` for `,`
abbrev pub wrong_net : Spoiling → List ℕ → Option (List ℕ)
wrong_net LeadingZero b = Some (48 ∷ net_bytes b)
wrong_net Semicolon b = Some (decimal_digits (length b) ++ 59 ∷ b ++ 44 ∷ [])
wrong_net Dot b = Some (decimal_digits (length b) ++ 58 ∷ b ++ 46 ∷ [])
wrong_net spoiling b = None

-- a `hex` of b: capital digits, where some have letters, and `,` for `;`
abbrev pub wrong_hex : Spoiling → List ℕ → Option (List ℕ)
wrong_hex Capitals b = if bytes_eq (encode_upper b) (encode_lower b) then None else Some (encode_upper b ++ 59 ∷ [])
wrong_hex Comma b = Some (encode_lower b ++ 44 ∷ [])
wrong_hex spoiling b = None

-- the first of these pieces, whose argument is the first of these
abbrev pub wrong_piece : Spoiling → List Piece → List (List ℕ) → Option (List ℕ)
wrong_piece spoiling (Lit text ∷ pieces) arguments = wrong_literal spoiling text
wrong_piece spoiling (Field Len ∷ pieces) (b ∷ arguments) = wrong_len spoiling (length pieces == 0) b
wrong_piece spoiling (Field Net ∷ pieces) (b ∷ arguments) = wrong_net spoiling b
wrong_piece spoiling (Field Hex ∷ pieces) (b ∷ arguments) = wrong_hex spoiling b
wrong_piece spoiling pieces arguments = None

-- ---- the bytes of a format with one piece in a wrong way

-- the arguments of the pieces before a place, and of those from there on
abbrev pub arguments_before : ℕ → List Piece → List (List ℕ) → List (List ℕ)
arguments_before i pieces arguments = take (field_count (take i pieces)) arguments

abbrev pub arguments_from : ℕ → List Piece → List (List ℕ) → List (List ℕ)
arguments_from i pieces arguments = drop (field_count (take i pieces)) arguments

-- what the pieces build, with these bytes in place of those of the piece at a place
abbrev pub with_piece : List Piece → ℕ → List (List ℕ) → List ℕ → List ℕ
with_piece pieces i arguments wrong =
    format_bytes (take i pieces) (arguments_before i pieces arguments)
    ++ wrong
    ++ format_bytes (drop (i + 1) pieces) (arguments_from (i + 1) pieces arguments)

-- whether a field takes the bytes up to the end
abbrev pub has_rest : List Piece → Bool
has_rest [] = false
has_rest (Lit text ∷ pieces) = has_rest pieces
has_rest (Field Rest ∷ pieces) = true
has_rest (Field kind ∷ pieces) = has_rest pieces

-- what the pieces build of these arguments, spoilt in the way of a row; nothing, where it can't be
abbrev pub spoilt : List Piece → Row → List (List ℕ) → Option (List ℕ)
spoilt pieces (At i spoiling) arguments =
    option_map (with_piece pieces i arguments) (wrong_piece spoiling (drop i pieces) (arguments_from i pieces arguments))
spoilt pieces Behind arguments = if has_rest pieces then None else Some (format_bytes pieces arguments ++ 0 ∷ [])

-- ---- the rows of a format

-- how a piece can be spoilt, which ends the format or doesn't
abbrev pub spoilings_of : Piece → Bool → List Spoiling
spoilings_of (Lit []) last = []
spoilings_of (Lit (b ∷ text)) last = OtherByte ∷ []
spoilings_of (Field Len) last = LongLength ∷ (if last then LengthBeyond ∷ [] else [])
spoilings_of (Field Net) last = LeadingZero ∷ Semicolon ∷ Dot ∷ []
spoilings_of (Field Hex) last = Capitals ∷ Comma ∷ []
spoilings_of (Field Rest) last = []

-- the rows of the pieces from a place on
abbrev pub rows_from : ℕ → List Piece → List Row
rows_from i [] = []
rows_from i (piece ∷ pieces) = map (At i) (spoilings_of piece (length pieces == 0)) ++ rows_from (i + 1) pieces

-- the rows of a format: those of its pieces in order, and a byte behind the end, where no field takes it
abbrev pub rows_of : List Piece → List Row
rows_of pieces = rows_from 0 pieces ++ (if has_rest pieces then [] else Behind ∷ [])

-- whether a row is tried by default: a length that isn't minimal is at the first field alone
abbrev pub is_default : List Piece → Row → Bool
is_default pieces (At i LongLength) = field_count (take i pieces) == 0
is_default pieces (At i LeadingZero) = field_count (take i pieces) == 0
is_default pieces row = true
