-- The lines of a role file, without the byte 0A that ends each.
use Rattle.std.specs.Prelude.{◌≡◌, ℕ, ◌<◌, ◌^◌, List, [], ◌∷◌, ◌++◌, length, All, IsTrue, codes, decimal}
use Rattle.std.specs.List.{AllByRecursion, flat_map}
use Rattle.anb_base.specs.Bytes.{IsBytes}
use Rattle.anb_format.specs.Formats.{FormatValue, IsBytesPiece}
use Rattle.anb_format.specs.declared.pieces.Piece.{Piece}
use Rattle.anb_format.specs.declared.pieces.Piece.TheVariants.{Lit, Field}
use Rattle.anb_values.specs.Lines.{IsLabel}
use Rattle.anb_syntax.specs.Words.{hash_name, is_name}
use Rattle.anb_syntax.specs.Canon.{word_bytes}
use Rattle.anb_syntax.specs.Grammar.{piece_word}
use Rattle.anb_code.specs.declared.raw.What.{What}
use Rattle.anb_code.specs.declared.raw.What.TheVariants as what
use Rattle.anb_code.specs.RawValue.{RawInstrValue}
use Rattle.anb_code.specs.Table.{HasCounts}
use Rattle.anb_text.specs.declared.lines.Version.{Version}
use Rattle.anb_text.specs.declared.lines.Version.TheVariants as version
use Rattle.anb_text.specs.declared.lines.Line.{Line}
use Rattle.anb_text.specs.declared.lines.Line.TheVariants as line

abbrev pub version_digit : Version → List ℕ
version_digit version.One = codes "1"
version_digit version.Two = codes "2"

-- a piece of a format, behind a space
abbrev pub spaced_piece : Piece → List ℕ
spaced_piece piece = 32 ∷ word_bytes (piece_word piece)

abbrev pub format_line : FormatValue → List ℕ
format_line format = codes "format " ++ (format.name ++ flat_map spaced_piece format.pieces)

-- ---- instructions

abbrev pub register : ℕ → List ℕ
register r = 114 ∷ decimal r

abbrev pub what_word : What → List ℕ
what_word what.Take = codes "take"
what_word what.Fresh = codes "fresh"
what_word what.Recv = codes "recv"
what_word what.Hash = codes "hash"
what_word what.Mac = codes "mac"
what_word what.Seal = codes "seal"
what_word what.Unseal = codes "unseal"
what_word what.Wrap = codes "wrap"
what_word what.Unwrap = codes "unwrap"
what_word what.Build = codes "build"
what_word what.Parse = codes "parse"
what_word what.Equal = codes "equal"
what_word what.Send = codes "send"

-- the registers that are written, each with a space behind it, and then `=`; nothing, where none is
abbrev pub destinations : List ℕ → List ℕ
destinations [] = []
destinations (r ∷ rs) = flat_map (λ r. register r ++ 32 ∷ []) (r ∷ rs) ++ codes "= "

-- the text of a take and the format of a build or a parse, behind a space; nothing for the others
abbrev pub spaced_name : What → List ℕ → List ℕ
spaced_name what.Take name = 32 ∷ name
spaced_name what.Build name = 32 ∷ name
spaced_name what.Parse name = 32 ∷ name
spaced_name other name = []

-- the registers that are read, each behind a space
abbrev pub operands : List ℕ → List ℕ
operands rs = flat_map (λ r. 32 ∷ register r) rs

abbrev pub instr_line : RawInstrValue → List ℕ
instr_line i = destinations i.to ++ (what_word i.what ++ (spaced_name i.what i.name ++ operands i.args))

-- ---- all

abbrev pub line_bytes : Line → List ℕ
line_bytes (line.Version v) = codes "anb-role " ++ version_digit v
line_bytes (line.Protocol name) = codes "protocol " ++ name
line_bytes (line.Role name) = codes "role " ++ name
line_bytes (line.Suite suite) = codes "suite " ++ hash_name suite
line_bytes (line.Format format) = format_line format
line_bytes line.Code = codes "code"
line_bytes (line.Instr i) = instr_line i
line_bytes line.End = codes "end"

-- ---- what can be written so

-- a name of the grammar, and at least one piece
pub record IsFormat (format : FormatValue) : Type 0 where
  pub name : IsTrue (is_name format.name)
  pub some : 0 < length format.pieces
  pub pieces : AllByRecursion IsBytesPiece format.pieces

-- a take has a label text, a build and a parse have the name of a format, and the others have none
abbrev pub IsNameFor : What → List ℕ → Type 0
IsNameFor what.Take name = IsLabel name
IsNameFor what.Build name = IsTrue (is_name name)
IsNameFor what.Parse name = IsTrue (is_name name)
IsNameFor other name = name ≡ []

-- as many registers as its kind has, numbered below 2^32
pub record IsInstr (i : RawInstrValue) : Type 0 where
  pub counts : HasCounts i
  pub name : IsNameFor i.what i.name
  pub to : All (λ r. r < 2 ^ 32) i.to
  pub args : All (λ r. r < 2 ^ 32) i.args

abbrev pub IsLine : Line → Type 0
IsLine (line.Version v) = Unit {0}
IsLine (line.Protocol name) = IsTrue (is_name name)
IsLine (line.Role name) = IsTrue (is_name name)
IsLine (line.Suite suite) = Unit {0}
IsLine (line.Format format) = IsFormat format
IsLine line.Code = Unit {0}
IsLine (line.Instr i) = IsInstr i
IsLine line.End = Unit {0}
