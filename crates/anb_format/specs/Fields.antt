-- What a field of each kind writes for its argument.
use Rattle.std.specs.Prelude.{ℕ, zero, suc, ◌+◌, ◌/◌, ◌%◌, nat_lt, List, [], ◌∷◌, ◌++◌, length, if◌then◌else◌}
use Rattle.hex.specs.Hex.{encode_lower}
use Rattle.anb_format.specs.declared.pieces.FieldKind.{FieldKind}
use Rattle.anb_format.specs.declared.pieces.FieldKind.TheVariants.{Len, Net, Hex, Rest}

-- n in LEB128, where one byte and this many more are enough
unfoldable pub leb128_within : ℕ → ℕ → List ℕ
leb128_within zero n = n ∷ []
leb128_within (suc more) n = if nat_lt n 128 then n ∷ [] else (128 + n % 128) ∷ leb128_within more (n / 128)

-- n in unsigned LEB128: seven bits a byte, the least significant first, the high bit set on all but
-- the last byte, and no more bytes than needed
abbrev pub leb128 : ℕ → List ℕ
leb128 n = leb128_within n n

-- the last digits of n, at most this many
unfoldable pub digits_within : ℕ → ℕ → List ℕ
digits_within zero n = []
digits_within (suc more) n = if nat_lt n 10 then (48 + n) ∷ [] else digits_within more (n / 10) ++ (48 + n % 10) ∷ []

-- n in decimal digits without a leading zero, which has no more digits than n + 1
abbrev pub decimal_digits : ℕ → List ℕ
decimal_digits n = digits_within (suc n) n

-- the minimal LEB128 of the length, then the bytes
abbrev pub len_bytes : List ℕ → List ℕ
len_bytes b = leb128 (length b) ++ b

-- a netstring: the decimal length, `:`, the bytes, `,`
abbrev pub net_bytes : List ℕ → List ℕ
net_bytes b = decimal_digits (length b) ++ 58 ∷ b ++ 44 ∷ []

-- the bytes in lower-case hexadecimal, then `;`
abbrev pub hex_bytes : List ℕ → List ℕ
hex_bytes b = encode_lower b ++ 59 ∷ []

-- what a field of this kind writes for b
abbrev pub field_bytes : FieldKind → List ℕ → List ℕ
field_bytes Len b = len_bytes b
field_bytes Net b = net_bytes b
field_bytes Hex b = hex_bytes b
field_bytes Rest b = b
