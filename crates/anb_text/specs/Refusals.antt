-- Why a text gives no code.
use Rattle.std.specs.Prelude.{◌≡◌, ◌≢◌, ℕ, ◌+◌, List, [], ◌∷◌, ◌++◌, length}
use Rattle.anb_base.specs.declared.TheConstants.{ARRIVAL, WIDE}
use Rattle.anb_code.specs.declared.refusal.CodeNo.{CodeNo}
use Rattle.anb_code.specs.Table.{IsFirstFault}
use Rattle.anb_text.specs.declared.lines.Line.{Line}
use Rattle.anb_text.specs.declared.refusal.LoadNo.{LoadNo}
use Rattle.anb_text.specs.declared.refusal.LoadNo.TheVariants.{Line as AtLine, Code, NoMemory}
use Rattle.anb_text.specs.RoleFiles.{IsRoleFile, ended, lines_text}

-- a role file begins with these lines
abbrev pub Begins : List Line → Type 0
Begins lines = (more : List Line) × IsRoleFile (lines ++ more)

-- the number, from 1, of the first line that isn't in the grammar at its place: a role file begins with the lines
-- before it, but none goes on with the line that stands there; and where nothing stands there a line is missing
pub record IsFirstFaulty (text : List ℕ) (n : ℕ) : Type 0 where
  pub before : List Line
  pub rest : List ℕ
  pub number : n ≡ length before + 1
  pub stands : text ≡ lines_text before ++ rest
  pub begins : Begins before
  pub stuck : (next : Line) (more : List ℕ) → rest ≡ ended next ++ more → Begins (before ++ next ∷ []) → ⊥
  pub unfinished : IsRoleFile before → rest ≢ []

-- the text is a role file, and this is the first fault of what it spells
pub record IsFaultyCode (text : List ℕ) (fault : CodeNo) : Type 0 where
  pub file : List Line
  pub is : IsRoleFile file
  pub stands : text ≡ lines_text file
  pub first : IsFirstFault ARRIVAL WIDE is.raw fault

abbrev pub IsRefusal : List ℕ → LoadNo → Type 0
IsRefusal text (AtLine n) = IsFirstFaulty text n
IsRefusal text (Code fault) = IsFaultyCode text fault
IsRefusal text NoMemory = Unit {0}
