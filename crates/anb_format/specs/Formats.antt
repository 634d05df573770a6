-- Formats: which lists of pieces are sound, what they build, and when two are apart.
use Rattle.std.specs.Prelude.{◌≡◌, ◌≢◌, ℕ, ◌+◌, ◌<◌, List, [], ◌∷◌, ◌++◌, length, slice_get, Some, Bool, true, false, nat_lt, ◌&&◌}
use Rattle.std.specs.List.{AllByRecursion, list_all}
use Rattle.std.specs.Option.{option_map_or}
use Rattle.anb_base.specs.Bytes.{IsBytes, is_bytes}
use Rattle.anb_format.specs.Fields.{field_bytes}
use Rattle.anb_format.specs.declared.pieces.FieldKind.TheVariants.{Len, Net, Hex, Rest}
use Rattle.anb_format.specs.declared.pieces.Piece.{Piece}
use Rattle.anb_format.specs.declared.pieces.Piece.TheVariants.{Lit, Field}

-- a format: its name, and its pieces in order
pub record FormatValue : Type 0 where
  pub name : List ℕ
  pub pieces : List Piece

-- the pieces of the format at a place; none, where there is none
abbrev pub pieces_at : List FormatValue → ℕ → List Piece
pieces_at formats i = option_map_or (λ (format : FormatValue). format.pieces) (slice_get formats i) []

-- how many arguments the pieces take
abbrev pub field_count : List Piece → ℕ
field_count [] = 0
field_count (Lit text ∷ pieces) = field_count pieces
field_count (Field kind ∷ pieces) = field_count pieces + 1

-- the pieces one after another: a literal's bytes, and what each field writes for its argument
abbrev pub format_bytes : List Piece → List (List ℕ) → List ℕ
format_bytes [] arguments = []
format_bytes (Lit text ∷ pieces) arguments = text ++ format_bytes pieces arguments
format_bytes (Field kind ∷ pieces) [] = []
format_bytes (Field kind ∷ pieces) (argument ∷ arguments) = field_bytes kind argument ++ format_bytes pieces arguments

-- these byte strings are the arguments that build these bytes
pub record IsParts (pieces : List Piece) (bytes : List ℕ) (arguments : List (List ℕ)) : Type 0 where
  pub count : length arguments ≡ field_count pieces
  pub strings : AllByRecursion IsBytes arguments
  pub built : format_bytes pieces arguments ≡ bytes

-- what follows these arguments in the whole list builds these bytes
pub record HasParts (pieces : List Piece) (bytes : List ℕ) (arguments whole : List (List ℕ)) : Type 0 where
  pub others : List (List ℕ)
  pub parts : IsParts pieces bytes others
  pub joined : whole ≡ arguments ++ others

-- the literals before the first field
abbrev pub head : List Piece → List ℕ
head [] = []
head (Lit text ∷ pieces) = text ++ head pieces
head (Field kind ∷ pieces) = []

-- xs begins with p
abbrev pub IsPrefix : List ℕ → List ℕ → Type 0
IsPrefix p xs = (rest : List ℕ) × (xs ≡ p ++ rest)

-- neither head is a prefix of the other
pub record AreApart (pieces others : List Piece) : Type 0 where
  pub ahead : IsPrefix (head pieces) (head others) → ⊥
  pub behind : IsPrefix (head others) (head pieces) → ⊥

-- piece i is a `rest` that a piece follows
abbrev pub IsEarlyRest : List Piece → ℕ → Type 0
IsEarlyRest pieces i = (slice_get pieces i ≡ Some (Field Rest)) × (i + 1 < length pieces)

-- piece i is the first `rest` that a piece follows
pub record IsFirstEarlyRest (pieces : List Piece) (i : ℕ) : Type 0 where
  pub here : IsEarlyRest pieces i
  pub none_before : (k : ℕ) → k < i → IsEarlyRest pieces k → ⊥

-- a literal is a string of bytes, as what every `Bytes` holds is
abbrev pub IsBytesPiece : Piece → Type 0
IsBytesPiece (Lit text) = IsBytes text
IsBytesPiece (Field kind) = Unit {0}

-- the head isn't empty, and nothing follows a `rest`
pub record IsSound (pieces : List Piece) : Type 0 where
  pub head_stands : head pieces ≢ []
  pub rest_is_last : (i : ℕ) → IsEarlyRest pieces i → ⊥
  pub literals : AllByRecursion IsBytesPiece pieces

-- whether nothing follows a `rest`
abbrev pub ends_at_rest : List Piece → Bool
ends_at_rest [] = true
ends_at_rest (Lit text ∷ pieces) = ends_at_rest pieces
ends_at_rest (Field kind ∷ []) = true
ends_at_rest (Field Rest ∷ piece ∷ pieces) = false
ends_at_rest (Field Len ∷ piece ∷ pieces) = ends_at_rest (piece ∷ pieces)
ends_at_rest (Field Net ∷ piece ∷ pieces) = ends_at_rest (piece ∷ pieces)
ends_at_rest (Field Hex ∷ piece ∷ pieces) = ends_at_rest (piece ∷ pieces)

abbrev pub is_bytes_piece : Piece → Bool
is_bytes_piece (Lit text) = is_bytes text
is_bytes_piece (Field kind) = true

-- `IsSound` as a test
abbrev pub is_sound : List Piece → Bool
is_sound pieces = nat_lt 0 (length (head pieces)) && ends_at_rest pieces && list_all is_bytes_piece pieces
