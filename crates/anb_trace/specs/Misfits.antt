-- What isn't right with bytes that aren't of a format: the first thing that isn't as its pieces say, with its place in bytes, from 0.
use Rattle.std.specs.Prelude.{ℕ, zero, suc, ◌+◌, ◌-◌, ◌*◌, ◌%◌, max, ◌==◌, ◌&&◌, ◌||◌, nat_le, nat_lt, not, Bool, List, [], ◌∷◌, ◌++◌, length, take, drop, position, codes, decimal, Option, Some, None, if◌then◌else◌}
use Rattle.std.specs.List.{position_or_len}
use Rattle.std.specs.Option.{option_map_or}
use Rattle.std.specs.Str.{bytes_eq}
use Rattle.hex.specs.Hex.{encode_lower}
use Rattle.anb_format.specs.Formats.{field_count}
use Rattle.anb_format.specs.declared.pieces.FieldKind.{FieldKind}
use Rattle.anb_format.specs.declared.pieces.FieldKind.TheVariants.{Len, Net, Hex, Rest}
use Rattle.anb_format.specs.declared.pieces.Piece.{Piece}
use Rattle.anb_format.specs.declared.pieces.Piece.TheVariants.{Lit, Field}
use Rattle.anb_text.specs.Reading.{number_of}

-- ---- words

abbrev pub count_text : ℕ → List ℕ
count_text n = decimal n ++ (if n == 1 then codes " byte" else codes " bytes")

abbrev pub count_there : ℕ → List ℕ
count_there n = count_text n ++ (if n == 1 then codes " is there" else codes " are there")

abbrev pub all_shown : List ℕ → List ℕ
all_shown [] = codes "nothing"
all_shown (b ∷ bytes) = encode_lower (b ∷ bytes)

-- the first sixteen
abbrev pub shown : List ℕ → List ℕ
shown bytes = if nat_lt 16 (length bytes) then encode_lower (take 16 bytes) ++ codes ".." else all_shown bytes

abbrev pub at_byte : (place : ℕ) → List ℕ → List ℕ
at_byte place text = codes "at byte " ++ (decimal place ++ 32 ∷ text)

abbrev pub due : (what there : List ℕ) → List ℕ
due what there = what ++ (codes " is due, " ++ (there ++ codes " is there"))

-- ---- what stands at the front of some bytes

-- what was looked for, with these bytes behind it; or something else at a place, which is told so
pub data Found : Type 0 where
  Before : List ℕ → Found
  Misfit : (place : ℕ) → List ℕ → Found

abbrev pub and_then : Found → (List ℕ → Found) → Found
and_then (Before rest) next = next rest
and_then (Misfit place text) next = Misfit place text

-- what is told of it, where this is told of what follows
abbrev pub misfit_behind : Found → (List ℕ → List ℕ) → List ℕ
misfit_behind (Before rest) next = next rest
misfit_behind (Misfit place text) next = at_byte place text

-- a number in minimal LEB128 that has these last seven bits, and more in front of them
abbrev pub longer_length : (low : ℕ) → Option (ℕ × List ℕ) → Option (ℕ × List ℕ)
longer_length low None = None
longer_length low (Some x) = if x.0 == 0 then None else Some (x.0 * 128 + low, x.1)

-- a length in minimal LEB128, of so many bytes more than one at most, and what follows it
abbrev pub length_at : (more : ℕ) → List ℕ → Option (ℕ × List ℕ)
length_at more [] = None
length_at zero (b ∷ bytes) = if nat_lt b 128 then Some (b, bytes) else None
length_at (suc more) (b ∷ bytes) = if nat_lt b 128 then Some (b, bytes) else longer_length (b - 128) (length_at more bytes)

abbrev pub is_digit : ℕ → Bool
is_digit b = nat_le 48 b && nat_le b 57

abbrev pub is_lower_digit : ℕ → Bool
is_lower_digit b = is_digit b || (nat_le 97 b && nat_le b 102)

-- a length ends with the first byte below 128, and has nine bytes at most
abbrev pub no_length : List ℕ → List ℕ
no_length bytes = option_map_or (λ i. due (codes "a minimal length") (all_shown (take (i + 1) bytes)))
    (position (λ b. nat_lt b 128) (take 9 bytes)) (due (codes "a length") (all_shown (take 9 bytes)))

-- bytes are counted from 0 up to this number of all
module _ (all : ℕ) where
  -- the place where these, the last ones, begin
  abbrev pub place_of : List ℕ → ℕ
  place_of bytes = all - length bytes

  abbrev pub literal_found : (text bytes : List ℕ) → Found
  literal_found text bytes = if bytes_eq (take (length text) bytes) text then Before (drop (length text) bytes)
      else Misfit (place_of bytes) (due (codes "the literal " ++ encode_lower text) (all_shown (take (length text) bytes)))

  -- so many bytes of the field that begins with these, behind its length
  abbrev pub counted : (field : ℕ) → (bytes : List ℕ) → (n : ℕ) → (behind : List ℕ) → Found
  counted field bytes n behind = if nat_lt (length behind) n
      then Misfit (place_of bytes) (codes "field " ++ (decimal field ++ (codes " has the length " ++ (decimal n ++ (codes ", " ++ count_there (length behind))))))
      else Before (drop n behind)

  abbrev pub len_found : (field : ℕ) → List ℕ → Found
  len_found field bytes = option_map_or (λ (x : ℕ × List ℕ). counted field bytes x.0 x.1) (length_at 8 bytes) (Misfit (place_of bytes) (no_length bytes))

  -- the digits up to another byte, `:`, so many bytes, and `,`
  abbrev pub net_found : (field : ℕ) → List ℕ → Found
  net_found field bytes =
      let digits = position_or_len (λ b. not (is_digit b)) bytes in
      option_map_or
      (λ n. and_then (literal_found (58 ∷ []) (drop digits bytes)) (λ behind. and_then (counted field bytes n behind) (literal_found (44 ∷ []))))
      (number_of (take digits bytes)) (Misfit (place_of bytes) (due (codes "a decimal length") (shown (take (max 1 digits) bytes))))

  abbrev pub no_hex_end : List ℕ → Found
  no_hex_end bytes = Misfit (place_of bytes) (due (codes "a pair of lower-case hexadecimal digits or 3b") (all_shown (take 2 bytes)))

  abbrev pub hex_end : List ℕ → Found
  hex_end [] = no_hex_end []
  hex_end (b ∷ bytes) = if b == 59 then Before bytes else no_hex_end (b ∷ bytes)

  -- pairs of digits, and `;`
  abbrev pub hex_found : List ℕ → Found
  hex_found bytes = let digits = position_or_len (λ b. not (is_lower_digit b)) bytes in hex_end (drop (digits - digits % 2) bytes)

  abbrev pub field_found : FieldKind → (field : ℕ) → List ℕ → Found
  field_found Len field bytes = len_found field bytes
  field_found Net field bytes = net_found field bytes
  field_found Hex field bytes = hex_found bytes
  field_found Rest field bytes = Before []

  -- a piece, which is this field if it is one
  abbrev pub piece_found : Piece → (field : ℕ) → List ℕ → Found
  piece_found (Lit text) field bytes = literal_found text bytes
  piece_found (Field kind) field bytes = field_found kind field bytes

  abbrev pub end_due : List ℕ → List ℕ
  end_due [] = []
  end_due (b ∷ bytes) = at_byte (place_of (b ∷ bytes)) (due (codes "the end") (shown (b ∷ bytes)))

  -- what isn't right with pieces, of which the first field has this number
  abbrev pub misfit_from : (field : ℕ) → List Piece → List ℕ → List ℕ
  misfit_from field [] bytes = end_due bytes
  misfit_from field (piece ∷ pieces) bytes =
      misfit_behind (piece_found piece field bytes) (λ rest. misfit_from (field + field_count (piece ∷ [])) pieces rest)

-- what isn't right with bytes that are none of these pieces, whose fields are numbered from 1; nothing where they are
abbrev pub misfit : List Piece → List ℕ → List ℕ
misfit pieces bytes = misfit_from (length bytes) 1 pieces bytes
