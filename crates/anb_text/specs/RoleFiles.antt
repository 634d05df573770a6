-- Role files: how a code is written.
use Rattle.std.specs.Prelude.{◌≡◌, ◌⊎◌, ℕ, List, [], ◌∷◌, ◌++◌, map, IsTrue}
use Rattle.std.specs.List.{AllByRecursion, flat_map}
use Rattle.anb_base.specs.declared.content.Suite.{Suite}
use Rattle.anb_base.specs.declared.content.Suite.TheVariants as suite
use Rattle.anb_syntax.specs.Words.{is_name}
use Rattle.anb_code.specs.CodeValue.{CodeValue}
use Rattle.anb_code.specs.RawValue.{RawValue}
use Rattle.anb_code.specs.Spelling.{raw_of}
use Rattle.anb_text.specs.declared.lines.Version.{Version}
use Rattle.anb_text.specs.declared.lines.Version.TheVariants as version
use Rattle.anb_text.specs.declared.lines.Line.{Line}
use Rattle.anb_text.specs.declared.lines.Line.TheVariants as line
use Rattle.anb_text.specs.Lines.{IsFormat, IsInstr, instr_line, line_bytes}

-- version 1 has no line for the suite
abbrev pub suite_lines : Version → Suite → List Line
suite_lines version.One s = []
suite_lines version.Two s = line.Suite s ∷ []

-- the lines of the role file of a code
abbrev pub file_lines : Version → RawValue → List Line
file_lines v raw = line.Version v ∷ line.Protocol raw.protocol ∷ line.Role raw.role
    ∷ suite_lines v raw.suite ++ (map line.Format raw.formats ++ line.Code ∷ (map line.Instr raw.code ++ line.End ∷ []))

-- a line, which ends with the byte 0A
abbrev pub ended : Line → List ℕ
ended l = line_bytes l ++ 10 ∷ []

abbrev pub lines_text : List Line → List ℕ
lines_text lines = flat_map ended lines

-- the role file of version 2 of a code, whose formats are named and whose registers are numbered from 0
abbrev pub role_text : CodeValue → List ℕ
role_text code = lines_text (file_lines version.Two (raw_of code))

-- and that of version 1
abbrev pub old_text : CodeValue → List ℕ
old_text code = lines_text (file_lines version.One (raw_of code))

-- the lines of its instructions
abbrev pub instr_lines : CodeValue → List (List ℕ)
instr_lines code = map instr_line (raw_of code).code

-- its names and take texts are of the grammar, and its numbers are below 2^32
pub record IsSpellable (raw : RawValue) : Type 0 where
  pub protocol : IsTrue (is_name raw.protocol)
  pub role : IsTrue (is_name raw.role)
  pub formats : AllByRecursion IsFormat raw.formats
  pub code : AllByRecursion IsInstr raw.code

-- version 1 is for suite One
abbrev pub IsFor : Version → Suite → Type 0
IsFor version.One s = s ≡ suite.One
IsFor version.Two s = Unit {0}

-- these are the lines of a role file
pub record IsRoleFile (lines : List Line) : Type 0 where
  pub v : Version
  pub raw : RawValue
  pub suite : IsFor v raw.suite
  pub spellable : IsSpellable raw
  pub stands : lines ≡ file_lines v raw

-- a text is the role file of a code, in one of the versions
abbrev pub IsTextOf : List ℕ → CodeValue → Type 0
IsTextOf text code = IsSpellable (raw_of code) × ((text ≡ role_text code) ⊎ ((code.suite ≡ suite.One) × (text ≡ old_text code)))
