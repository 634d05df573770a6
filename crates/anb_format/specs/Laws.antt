-- What holds of formats and literals whatever they are.
use Rattle.std.specs.Prelude.{◌≡◌, ◌≢◌, ◌↔◌, ◌<◌, ◌≤◌, ◌^◌, ℕ, List, length, Some}
use Rattle.std.specs.List.{AllByRecursion, AllZip}
use Rattle.anb_base.specs.Bytes.{IsBytes}
use Rattle.anb_format.specs.Formats.{AreApart, IsParts, IsSound, format_bytes}
use Rattle.anb_format.specs.Literals.{IsLiteral, IsLiteralAt, canonical_literal}
use Rattle.anb_format.specs.Reading.{parts_of}
use Rattle.anb_format.specs.Widths.{format_width}
use Rattle.anb_format.specs.declared.pieces.Piece.{Piece}

-- some bytes are built from one list of byte strings at most
abbrev pub PartsAreUnique : Type 0
PartsAreUnique = (pieces : List Piece) → IsSound pieces → (bytes : List ℕ) (arguments others : List (List ℕ))
    → IsParts pieces bytes arguments → IsParts pieces bytes others → arguments ≡ others

-- `parts_of` gives the byte strings that build some bytes, exactly where there are any
abbrev pub PartsAreExact : Type 0
PartsAreExact = (pieces : List Piece) → IsSound pieces → (bytes : List ℕ) (arguments : List (List ℕ))
    → (parts_of pieces bytes ≡ Some arguments) ↔ IsParts pieces bytes arguments

-- what is built of byte strings is a byte string
abbrev pub BuiltIsBytes : Type 0
BuiltIsBytes = (pieces : List Piece) → IsSound pieces → (arguments : List (List ℕ)) → AllByRecursion IsBytes arguments → IsBytes (format_bytes pieces arguments)

-- each byte string is at most as long as its width
abbrev pub AreWithin : List (List ℕ) → List ℕ → Type 0
AreWithin strings widths = AllZip (λ b width. length b ≤ width) strings widths

-- what is built of arguments that are within widths is within the format's width
abbrev pub BuiltIsWithin : Type 0
BuiltIsWithin = (least : ℕ) (pieces : List Piece) (arguments : List (List ℕ)) (widths : List ℕ)
    → AreWithin arguments widths → AllByRecursion (λ width. width < 2 ^ 64) widths
    → length (format_bytes pieces arguments) ≤ format_width least pieces widths

-- no argument is longer than what is built of it
abbrev pub PartsAreWithin : Type 0
PartsAreWithin = (pieces : List Piece) (bytes : List ℕ) (arguments : List (List ℕ))
    → IsParts pieces bytes arguments → AllByRecursion (λ b. length b ≤ length bytes) arguments

-- formats that are apart build no bytes in common
abbrev pub ApartSharesNothing : Type 0
ApartSharesNothing = (pieces others : List Piece) → AreApart pieces others → (arguments others_arguments : List (List ℕ))
    → format_bytes pieces arguments ≢ format_bytes others others_arguments

-- the canonical literal of some bytes is a literal of them
abbrev pub CanonicalIsLiteral : Type 0
CanonicalIsLiteral = (bytes : List ℕ) → IsBytes bytes → IsLiteral (canonical_literal bytes) bytes

-- at one offset of a text one literal begins at most
abbrev pub LiteralsAreUnique : Type 0
LiteralsAreUnique = (text : List ℕ) (from : ℕ) (bytes others : List ℕ) (end others_end : ℕ)
    → IsLiteralAt text from bytes end → IsLiteralAt text from others others_end → (bytes ≡ others) × (end ≡ others_end)
