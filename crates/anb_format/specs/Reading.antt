-- The arguments that build some bytes, as a computation: what seems to stand there is read, and it
-- counts where it builds these bytes again.
use Rattle.std.specs.Prelude.{ℕ, ◌+◌, ◌-◌, ◌*◌, ◌==◌, ◌&&◌, nat_lt, List, [], ◌∷◌, length, take, drop, Option, Some, None, unwrap_or, if◌then◌else◌}
use Rattle.std.specs.List.{list_all}
use Rattle.std.specs.Str.{bytes_eq}
use Rattle.anb_base.specs.Bytes.{is_bytes}
use Rattle.hex.specs.Hex.{hex_digit_value}
use Rattle.anb_format.specs.Formats.{format_bytes}
use Rattle.anb_format.specs.declared.pieces.FieldKind.{FieldKind}
use Rattle.anb_format.specs.declared.pieces.FieldKind.TheVariants.{Len, Net, Hex, Rest}
use Rattle.anb_format.specs.declared.pieces.Piece.{Piece}
use Rattle.anb_format.specs.declared.pieces.Piece.TheVariants.{Lit, Field}

-- the number that the front is in LEB128, and what follows it
abbrev pub leb128_at : List ℕ → ℕ × List ℕ
leb128_at [] = (0, [])
leb128_at (b ∷ bytes) = if nat_lt b 128 then (b, bytes) else (b - 128 + 128 * (leb128_at bytes).0, (leb128_at bytes).1)

-- the number whose last digits the front is, up to `:`, and what follows it
abbrev pub decimal_at : ℕ → List ℕ → ℕ × List ℕ
decimal_at above [] = (above, [])
decimal_at above (b ∷ bytes) = if b == 58 then (above, bytes) else decimal_at (above * 10 + (b - 48)) bytes

-- the bytes that the front is in hexadecimal, up to `;`, and what follows them
abbrev pub hex_at : List ℕ → List ℕ × List ℕ
hex_at [] = ([], [])
hex_at (b ∷ []) = ([], [])
hex_at (high ∷ low ∷ bytes) = if high == 59 then ([], low ∷ bytes)
    else ((unwrap_or (hex_digit_value high) 0 * 16 + unwrap_or (hex_digit_value low) 0) ∷ (hex_at bytes).0, (hex_at bytes).1)

-- the argument that a field of this kind seems to have at the front, and what follows the field
abbrev pub field_at : FieldKind → List ℕ → List ℕ × List ℕ
field_at Len bytes = (take (leb128_at bytes).0 (leb128_at bytes).1, drop (leb128_at bytes).0 (leb128_at bytes).1)
field_at Net bytes = (take (decimal_at 0 bytes).0 (decimal_at 0 bytes).1, drop ((decimal_at 0 bytes).0 + 1) (decimal_at 0 bytes).1)
field_at Hex bytes = hex_at bytes
field_at Rest bytes = (bytes, [])

-- the arguments that these pieces seem to have
abbrev pub arguments_at : List Piece → List ℕ → List (List ℕ)
arguments_at [] bytes = []
arguments_at (Lit text ∷ pieces) bytes = arguments_at pieces (drop (length text) bytes)
arguments_at (Field kind ∷ pieces) bytes = (field_at kind bytes).0 ∷ arguments_at pieces (field_at kind bytes).1

-- the byte strings that build these bytes, if there are any
abbrev pub parts_of : List Piece → List ℕ → Option (List (List ℕ))
parts_of pieces bytes =
    let arguments = arguments_at pieces bytes in
    if list_all is_bytes arguments && bytes_eq (format_bytes pieces arguments) bytes then Some arguments else None
