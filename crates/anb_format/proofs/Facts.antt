-- What a crate above uses of `parts_of`, `format_bytes` and `is_sound`, as lemmas.
use Rattle.std.specs.Prelude.{◌≡◌, ℕ, List, length, Some, refl}
use Rattle.std.specs.List.{AllByRecursion}
use Rattle.anb_base.specs.Bytes.{IsBytes}
use Rattle.anb_format.specs.Formats.{IsSound, field_count, format_bytes, is_sound}
use Rattle.anb_format.specs.Reading.{parts_of}
use Rattle.anb_format.specs.declared.pieces.Piece.{Piece}
use Rattle.anb_format.proofs.BuiltLemmas.{built_is_bytes}
use Rattle.anb_format.proofs.ReadingLemmas.{parts_of-built}

-- what byte strings build has them as its parts
pub parts_of-format_bytes : (pieces : List Piece) (arguments : List (List ℕ)) → IsSound pieces → length arguments ≡ field_count pieces → AllByRecursion IsBytes arguments
    → parts_of pieces (format_bytes pieces arguments) ≡ Some arguments
parts_of-format_bytes pieces arguments sound count strings =
    parts_of-built pieces (format_bytes pieces arguments) arguments sound.rest_is_last (record { count = count; strings = strings; built = refl })

-- what byte strings build is a byte string
pub IsBytes-format_bytes : (pieces : List Piece) (arguments : List (List ℕ)) → IsSound pieces → AllByRecursion IsBytes arguments → IsBytes (format_bytes pieces arguments)
IsBytes-format_bytes pieces arguments sound strings = built_is_bytes pieces arguments sound.literals strings
