-- What a narration declares of a name.
use Rattle.std.specs.Prelude.{ℕ, List, [], ◌∷◌, Bool, false, Option, Some, None, ◌||◌, if◌then◌else◌}
use Rattle.std.specs.Str.{bytes_eq}
use Rattle.anb_index.specs.Places.{among}
use Rattle.anb_format.specs.declared.pieces.Piece.{Piece}
use Rattle.anb_syntax.specs.Grammar.{FormatItem, TypeItem}
use Rattle.anb_syntax.specs.declared.narration.Sort.{Sort}

-- the sort of a name that stands among the types
abbrev pub sort_of : List TypeItem → List ℕ → Option Sort
sort_of [] x = None
sort_of (i ∷ is) x = if among i.names x then Some i.sort else sort_of is x

-- a format has this name
abbrev pub is_format : List FormatItem → List ℕ → Bool
is_format [] x = false
is_format (f ∷ fs) x = bytes_eq f.title x || is_format fs x

-- the pieces of the first format with this name
abbrev pub pieces_of : List FormatItem → List ℕ → List Piece
pieces_of [] x = []
pieces_of (f ∷ fs) x = if bytes_eq f.title x then f.pieces else pieces_of fs x
