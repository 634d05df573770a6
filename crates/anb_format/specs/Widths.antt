-- How many bytes a format builds at most, by how many its arguments have at most.
use Rattle.std.specs.Prelude.{ℕ, ◌+◌, ◌*◌, List, [], ◌∷◌, length, max}
use Rattle.anb_format.specs.declared.pieces.FieldKind.{FieldKind}
use Rattle.anb_format.specs.declared.pieces.FieldKind.TheVariants.{Len, Net, Hex, Rest}
use Rattle.anb_format.specs.declared.pieces.Piece.{Piece}
use Rattle.anb_format.specs.declared.pieces.Piece.TheVariants.{Lit, Field}

-- the width of a field whose argument has this width
abbrev pub field_width : FieldKind → ℕ → ℕ
field_width Len width = width + 10
field_width Net width = width + 22
field_width Hex width = 2 * width + 1
field_width Rest width = width

-- the sum over the pieces, where the fields' arguments have these widths
abbrev pub pieces_width : List Piece → List ℕ → ℕ
pieces_width [] widths = 0
pieces_width (Lit text ∷ pieces) widths = length text + pieces_width pieces widths
pieces_width (Field kind ∷ pieces) [] = 0
pieces_width (Field kind ∷ pieces) (width ∷ widths) = field_width kind width + pieces_width pieces widths

-- the width of what a format builds; none is below the least
abbrev pub format_width : ℕ → List Piece → List ℕ → ℕ
format_width least pieces widths = max least (pieces_width pieces widths)
