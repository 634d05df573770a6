-- How a report names changes and rows.
use Rattle.std.specs.Prelude.{ℕ, nat_lt, List, [], ◌∷◌, ◌++◌, take, drop, codes, Option, Some, None, if◌then◌else◌}
use Rattle.anb_format.specs.Formats.{field_count}
use Rattle.anb_format.specs.Literals.{canonical_literal}
use Rattle.anb_format.specs.declared.pieces.Piece.{Piece}
use Rattle.anb_format.specs.declared.pieces.Piece.TheVariants.{Lit, Field}
use Rattle.anb_spoil.specs.declared.changes.Change.{Change}
use Rattle.anb_spoil.specs.declared.changes.Change.TheVariants.{LastByte, WithoutLast, FirstByte, ByteMore, ZeroInFront}
use Rattle.anb_spoil.specs.declared.rows.Spoiling.{Spoiling}
use Rattle.anb_spoil.specs.declared.rows.Spoiling.TheVariants.{OtherByte, LongLength, LengthBeyond, LeadingZero, Semicolon, Dot, Capitals, Comma}
use Rattle.anb_spoil.specs.declared.rows.Row.{Row}
use Rattle.anb_spoil.specs.declared.rows.Row.TheVariants.{At, Behind}

-- the change of a value of this many bytes
abbrev pub change_words : Change → ℕ → List ℕ
change_words LastByte n = codes "with its last byte changed"
change_words WithoutLast n = if nat_lt 1 n then codes "without its last byte" else codes "with a byte more"
change_words FirstByte n = codes "with its first byte changed"
change_words ByteMore n = codes "with a byte more"
change_words ZeroInFront n = codes "with a zero byte in front"

-- a false tag
abbrev pub false_tag_words : List ℕ
false_tag_words = codes "with another tag, and its stream"

-- what stands before the name of a field's argument, and behind it
abbrev pub around_name : Spoiling → List ℕ × List ℕ
around_name OtherByte = (codes "with another byte in ", [])
around_name LongLength = (codes "with a length of ", codes " that isn't minimal")
around_name LengthBeyond = (codes "with a length of ", codes " beyond the end")
around_name LeadingZero = (codes "with a length of ", codes " that begins with a zero")
around_name Semicolon = (codes "with \";\" in front of ", [])
around_name Dot = (codes "with \".\" after ", [])
around_name Capitals = (codes "with capital digits of ", [])
around_name Comma = (codes "with \",\" after ", [])

-- a field that is written in a wrong way, whose argument has this name
abbrev pub field_words : Spoiling → List ℕ → List ℕ
field_words spoiling name = (around_name spoiling).0 ++ name ++ (around_name spoiling).1

-- a literal with another byte
abbrev pub literal_words : List ℕ → List ℕ
literal_words text = codes "with another byte in " ++ canonical_literal text

-- the first of these pieces, written in a wrong way, where its argument has this name
abbrev pub piece_words : Spoiling → List Piece → List ℕ → List ℕ
piece_words spoiling [] name = []
piece_words spoiling (Lit text ∷ pieces) name = literal_words text
piece_words spoiling (Field kind ∷ pieces) name = field_words spoiling name

-- a row of these pieces
abbrev pub row_words : List Piece → Row → List ℕ → List ℕ
row_words pieces (At i spoiling) name = piece_words spoiling (drop i pieces) name
row_words pieces Behind name = codes "with a byte after its end"

-- the number of the argument of the first of these pieces, where so many stand before it
abbrev pub argument_number : ℕ → List Piece → Option ℕ
argument_number before [] = None
argument_number before (Lit text ∷ pieces) = None
argument_number before (Field kind ∷ pieces) = Some before

-- the number of the argument that a row speaks of
abbrev pub argument_of : List Piece → Row → Option ℕ
argument_of pieces (At i spoiling) = argument_number (field_count (take i pieces)) (drop i pieces)
argument_of pieces Behind = None
