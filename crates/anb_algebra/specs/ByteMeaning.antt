-- What the operators mean over byte strings, by some formats and a suite.
use Rattle.std.specs.Prelude.{◌≡◌, ℕ, List, [], ◌∷◌, Bool, true, false, ◌&&◌, ◌==◌, Option, Some, None, slice_get}
use Rattle.std.specs.Option.{option_map, option_map_or}
use Rattle.std.specs.Str.{bytes_eq}
use Rattle.anb_base.specs.Bytes.{is_bytes}
use Rattle.anb_base.specs.declared.content.Suite.{Suite}
use Rattle.anb_format.specs.declared.pieces.Piece.{Piece}
use Rattle.anb_format.specs.Formats.{FormatValue, field_count, format_bytes, is_sound, pieces_at}
use Rattle.anb_format.specs.Reading.{parts_of}
use Rattle.anb_seal.specs.Primitives.{hash_of, mac_of, sealed, unsealed, wrapped, unwrapped}
use Rattle.anb_term.specs.declared.term.Op.{Op}
use Rattle.anb_term.specs.declared.term.Op.TheVariants.{Hash, Mac, Seal, Wrap, Format}
use Rattle.anb_term.specs.Value.{Meaning, RecipeTree, value}

-- a format with so many fields stands at this place
abbrev pub StandsAt : List FormatValue → ℕ → ℕ → Type 0
StandsAt formats i arity = (format : FormatValue) × (slice_get formats i ≡ Some format) × (field_count format.pieces ≡ arity)

-- the operators: those that need no format, and one for each format, which is sound as every `Format`
abbrev pub has_operator : List FormatValue → Op → Bool
has_operator formats (Format i arity) = option_map_or (λ (format : FormatValue). is_sound format.pieces && (field_count format.pieces == arity)) (slice_get formats i) false
has_operator formats op = true

-- what an operator builds; on another number of operands it has no use
abbrev pub built_bytes : List FormatValue → Suite → Op → List (List ℕ) → List ℕ
built_bytes formats suite Hash (m ∷ []) = hash_of suite m
built_bytes formats suite Mac (k ∷ m ∷ []) = mac_of suite k m
built_bytes formats suite Seal (k ∷ m ∷ []) = sealed suite k m
built_bytes formats suite Wrap (k ∷ d ∷ m ∷ []) = wrapped suite k d m
built_bytes formats suite (Format i arity) arguments = format_bytes (pieces_at formats i) arguments
built_bytes formats suite op operands = []

-- the parts of a byte string, undone with keys
abbrev pub undone_bytes : List FormatValue → Suite → Op → List (List ℕ) → List ℕ → Option (List (List ℕ))
undone_bytes formats suite Seal (k ∷ []) c = option_map (λ m. m ∷ []) (unsealed suite k c)
undone_bytes formats suite Wrap (k ∷ d ∷ []) c = option_map (λ m. m ∷ []) (unwrapped suite k d c)
undone_bytes formats suite (Format i arity) [] c = parts_of (pieces_at formats i) c
undone_bytes formats suite op keys c = None

abbrev pub byte_meaning : List FormatValue → Suite → Meaning (List ℕ)
byte_meaning formats suite = record {
  is_value = is_bytes;
  has = has_operator formats;
  built = built_bytes formats suite;
  undone = undone_bytes formats suite;
  same = bytes_eq;
}

-- the value of a recipe in bytes, over the labels' byte strings
abbrev pub value_in_bytes : List FormatValue → Suite → List (List ℕ) → RecipeTree → Option (List ℕ)
value_in_bytes formats suite labels recipe = value (byte_meaning formats suite) labels recipe
