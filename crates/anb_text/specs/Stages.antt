-- How far a role file was read.
use Rattle.std.specs.Prelude.{◌≡◌, ℕ, ◌+◌, List, [], ◌∷◌, ◌++◌, length, map, ◌==◌, not, true, Option, Some, None, IsTrue}
use Rattle.std.specs.List.{AllByRecursion}
use Rattle.anb_base.specs.declared.content.Suite.{Suite}
use Rattle.anb_base.specs.declared.content.Suite.TheVariants as suite
use Rattle.anb_format.specs.Formats.{FormatValue}
use Rattle.anb_syntax.specs.Words.{is_name}
use Rattle.anb_code.specs.RawValue.{RawInstrValue, RawValue}
use Rattle.anb_code.specs.declared.refusal.CodeNo.{CodeNo}
use Rattle.anb_code.specs.declared.refusal.CodeNo.TheVariants as code
use Rattle.anb_text.specs.declared.lines.Version.{Version}
use Rattle.anb_text.specs.declared.lines.Version.TheVariants as version
use Rattle.anb_text.specs.declared.lines.Line.{Line}
use Rattle.anb_text.specs.declared.lines.Line.TheVariants as line
use Rattle.anb_text.specs.declared.stages.Stage.{Stage}
use Rattle.anb_text.specs.declared.stages.Stage.TheVariants.{Start, Version as OfVersion, Protocol, Role, Formats, Code, End}
use Rattle.anb_text.specs.declared.refusal.LoadNo.{LoadNo}
use Rattle.anb_text.specs.declared.refusal.LoadNo.TheVariants.{Line as AtLine, Code as NoCode, NoMemory}
use Rattle.anb_text.specs.Lines.{IsLine, line_bytes}
use Rattle.anb_text.specs.RoleFiles.{IsFor, IsSpellable, file_lines, lines_text, suite_lines}
use Rattle.anb_text.specs.Refusals.{IsFirstFaulty}

abbrev pub no_code : List ℕ → List ℕ → Suite → RawValue
no_code protocol role suite = record { protocol = protocol; role = role; suite = suite; formats = []; code = [] }

abbrev pub with_format : RawValue → FormatValue → RawValue
with_format raw format = record raw { formats = raw.formats ++ format ∷ [] }

abbrev pub with_instr : RawValue → RawInstrValue → RawValue
with_instr raw instr = record raw { code = raw.code ++ instr ∷ [] }

-- what was read with one line more, where it is in the grammar there
abbrev pub stage_after : Stage → Line → Option Stage
stage_after Start (line.Version v) = Some (OfVersion v)
stage_after (OfVersion v) (line.Protocol name) = Some (Protocol v name)
stage_after (Protocol version.One protocol) (line.Role role) = Some (Formats version.One (no_code protocol role suite.One))
stage_after (Protocol version.Two protocol) (line.Role role) = Some (Role protocol role)
stage_after (Role protocol role) (line.Suite suite) = Some (Formats version.Two (no_code protocol role suite))
stage_after (Formats v raw) (line.Format format) = Some (Formats v (with_format raw format))
stage_after (Formats v raw) line.Code = Some (Code v raw)
stage_after (Code v raw) (line.Instr instr) = Some (Code v (with_instr raw instr))
stage_after (Code v raw) line.End = Some (End v raw)
stage_after stage other = None

-- ---- what led there

-- the lines before the formats
abbrev pub heading : Version → RawValue → List Line
heading v raw = line.Version v ∷ line.Protocol raw.protocol ∷ line.Role raw.role ∷ suite_lines v raw.suite

-- the lines that were read
abbrev pub lines_to : Stage → List Line
lines_to Start = []
lines_to (OfVersion v) = line.Version v ∷ []
lines_to (Protocol v protocol) = line.Version v ∷ line.Protocol protocol ∷ []
lines_to (Role protocol role) = line.Version version.Two ∷ line.Protocol protocol ∷ line.Role role ∷ []
lines_to (Formats v raw) = heading v raw ++ map line.Format raw.formats
lines_to (Code v raw) = heading v raw ++ (map line.Format raw.formats ++ line.Code ∷ map line.Instr raw.code)
lines_to (End v raw) = file_lines v raw

-- they can be written
abbrev pub IsStage : Stage → Type 0
IsStage Start = Unit {0}
IsStage (OfVersion v) = Unit {0}
IsStage (Protocol v protocol) = IsTrue (is_name protocol)
IsStage (Role protocol role) = IsTrue (is_name protocol) × IsTrue (is_name role)
IsStage (Formats v raw) = IsFor v raw.suite × IsSpellable raw × (raw.code ≡ [])
IsStage (Code v raw) = IsFor v raw.suite × IsSpellable raw
IsStage (End v raw) = IsFor v raw.suite × IsSpellable raw

-- so much of the text was read, and this is the number of the next line
pub record HasRead (text : List ℕ) (stage : Stage) (rest : List ℕ) (number : ℕ) : Type 0 where
  pub is : IsStage stage
  pub stands : text ≡ lines_text (lines_to stage) ++ rest
  pub number_is : number ≡ length (lines_to stage) + 1

-- no byte 0A stands there
abbrev pub IsOneLine : List ℕ → Type 0
IsOneLine bytes = AllByRecursion (λ b. not (b == 10) ≡ true) bytes

-- this is the first line, and what stands behind its end
pub record IsSplit (text line rest : List ℕ) : Type 0 where
  pub stands : text ≡ line ++ 10 ∷ rest
  pub one : IsOneLine line

-- the line is one that is in the grammar there, and this was read with it
pub record ReadsOn (stage : Stage) (text : List ℕ) (after : Stage) : Type 0 where
  pub next : Line
  pub is : IsLine next
  pub stands : text ≡ line_bytes next
  pub leads : stage_after stage next ≡ Some after

-- no line that stands there is in the grammar there
abbrev pub IsStuck : Stage → List ℕ → Type 0
IsStuck stage text = (next : Line) → IsLine next → text ≡ line_bytes next → stage_after stage next ≡ None

-- ---- the whole text

-- the text is a role file of this code
pub record Spells (text : List ℕ) (raw : RawValue) : Type 0 where
  pub v : Version
  pub suite : IsFor v raw.suite
  pub spellable : IsSpellable raw
  pub stands : text ≡ lines_text (file_lines v raw)

-- the text has a faulty line
abbrev pub IsFault : List ℕ → LoadNo → Type 0
IsFault text (AtLine n) = IsFirstFaulty text n
IsFault text (NoCode fault) = ⊥
IsFault text NoMemory = Unit {0}

-- want of memory is no fault of a code
abbrev pub refusal_of : CodeNo → LoadNo
refusal_of code.NoMemory = NoMemory
refusal_of fault = NoCode fault
