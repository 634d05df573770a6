-- Commands that show a protocol to a person.
use Rattle.std.specs.Prelude.{◌≡◌, ◌⊎◌, ℕ, List, Option, Some, None}
use Rattle.anb_base.specs.Wires.{WireState}
use Rattle.anb_base.specs.declared.TheConstants.{ARRIVAL, WIDE}
use Rattle.anb_syntax.specs.Grammar.{Narration}
use Rattle.anb_syntax.specs.Text.{Text}
use Rattle.anb_read.specs.Refusals.{IsRefusal}
use Rattle.anb_read.specs.declared.refusal.ReadNo.{ReadNo}
use Rattle.anb_protocol.specs.Protocols.{ProtocolValue}
use Rattle.anb_chart.specs.Charts.{chart}
use Rattle.anb_status.specs.declared.status.NarrationNo.TheVariants.{Read}
use Rattle.anb_status.specs.declared.status.Status.{Status}
use Rattle.anb_status.specs.declared.status.Status.TheVariants.{BadNarration}
use Rattle.anb_command.specs.Fetches.{Files, IfTold}
use Rattle.anb_command.specs.Files.{FileIs, ProtocolIs}
use Rattle.anb_command.specs.declared.limits.TheConstants.{NARRATION_LIMIT}
use Rattle.anb_choice.specs.Branching.{BranchedText, IsRefusal as IsNoChoice}
use Rattle.anb_choice.specs.Lawful.{BranchedValue, IsLawful}
use Rattle.anb_outcomes.specs.declared.choices.BranchNo.{BranchNo}
use Rattle.anb_chart_commands.specs.ChoiceCharts.{choice_chart}
use Rattle.anb_command.specs.Roles.{Part, PartInFile}
use Rattle.anb_command.specs.Steps.{Answer, refused, given, AnswersWith, InTurn}
use Rattle.anb_command.specs.Writing.{CompletesText, IsWriting, IsWritingOne}
use Rattle.anb_code.specs.CodeValue.{CodeValue}
use Rattle.anb_code.specs.Verified.{IsVerifiedCode}
use Rattle.anb_compile.specs.Fitting.{FitsRole}
use Rattle.anb_pattern.specs.Taken.{TakenValue}
use Rattle.anb_accept.specs.Roles.{IsTakenBy}
use Rattle.anb_report.specs.RoleCharts.{role_chart}

-- what a text tells: a protocol, or a choice
pub data Told : Type 0 where
  one : ProtocolValue → Told
  branched : BranchedValue → Told

-- the protocol that a narration tells
abbrev pub OneIs : Narration → Answer Told → Type 0
OneIs n = InTurn (ProtocolIs n) (λ p. AnswersWith (one p))

-- The choice that a text tells, which is no narration for this reason. Where it tells no lawful one, it is refused
-- for that reason.
abbrev pub ChoiceIs : List ℕ → ReadNo → Answer Told → Type 0
ChoiceIs x why (refused status) = (status ≡ BadNarration (Read why)) × ((no : BranchNo) × IsNoChoice x no)
ChoiceIs x why (given (one p)) = ⊥
ChoiceIs x why (given (branched b)) = BranchedText x b × IsLawful b

-- what a text tells: the protocol of its narration; and where it is none, its choice, which is lawful
abbrev pub ToldIs : List ℕ → Answer Told → Type 0
ToldIs x answer =
    ((n : Narration) × Text n x × OneIs n answer) ⊎ ((why : ReadNo) × IsRefusal x why × ChoiceIs x why answer)

abbrev pub ToldInFile : Files → List ℕ → Answer Told → Type 0
ToldInFile files narration = InTurn (FileIs files narration NARRATION_LIMIT) ToldIs

abbrev pub chart_of : Told → List ℕ
chart_of (one p) = chart p
chart_of (branched b) = choice_chart b

-- `chart` writes the chart of what the file's text tells, whether or not its roles can send
abbrev pub ChartOf : Told → Answer (List ℕ) → Type 0
ChartOf t = AnswersWith (chart_of t)

abbrev pub ChartText : Files → List ℕ → Answer (List ℕ) → Type 0
ChartText files narration = InTurn (ToldInFile files narration) ChartOf

module _ (narration : List ℕ) (told : Option Files) where
  abbrev pub DoesChart : (old new : WireState) → Status → Type 0
  DoesChart old new status =
      IfTold told (λ files. IsWritingOne (ChartText files narration) status old.written new.written)

  abbrev pub CompletesChart : Status → Type 0
  CompletesChart status = IfTold told (λ files. CompletesText (ChartText files narration) status)

-- ---- the chart for a role

-- the chart with the role's notes, by a code that is accepted and fits the role, and by the patterns whose instances
-- are exactly what it takes
pub record IsRoleChart (part : Part) (text : List ℕ) : Type 0 where
  pub code : CodeValue
  pub accepted : IsVerifiedCode ARRIVAL WIDE code
  pub fits : FitsRole part.protocol part.role code
  pub taken : TakenValue
  pub takes : IsTakenBy part.protocol part.role taken
  pub is : text ≡ role_chart part.protocol part.role code taken

abbrev pub RoleChartOf : Part → Answer (List ℕ) → Type 0
RoleChartOf part (refused status) = ⊥
RoleChartOf part (given text) = IsRoleChart part text

-- `chart --role` writes such a chart of the protocol in the file, where all its roles can send
abbrev pub RoleChartText : Files → (narration role : List ℕ) → Answer (List ℕ) → Type 0
RoleChartText files narration role = InTurn (PartInFile files narration role) RoleChartOf

module _ (narration role : List ℕ) (told : Option Files) where
  abbrev pub DoesRoleChart : (old new : WireState) → Status → Type 0
  DoesRoleChart old new status =
      IfTold told (λ files. IsWriting (RoleChartText files narration role) status old.written new.written)

  abbrev pub CompletesRoleChart : Status → Type 0
  CompletesRoleChart status = IfTold told (λ files. CompletesText (RoleChartText files narration role) status)
