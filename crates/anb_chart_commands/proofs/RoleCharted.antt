-- What is written of the chart for a role.
use Rattle.std.proofs.Common.{◌≡◌, true, List, ℕ, Option}
use Rattle.anb_read.specs.Laws.{NarrationsAreUnique, RefusalsAreUnique, NoneIsBoth}
use Rattle.anb_status.specs.declared.status.Status.{Status}
use Rattle.anb_status.specs.declared.status.Status.TheVariants.{NoMemory}
use Rattle.anb_command.specs.Fetches.{Files, IfTold}
use Rattle.anb_command.specs.Roles.{Part, PartInFile}
use Rattle.anb_status.specs.Statuses.{is_fault}
use Rattle.anb_command.specs.Steps.{refused, given, IsFailure}
use Rattle.anb_command.specs.Writing.{IsWriting, IsWritten}
use Rattle.anb_command.proofs.Chains.{told_map}
use Rattle.anb_command.proofs.Ones.{IsSettled, RefusesQuietly, then_settled, then_quiet, part_one, part_quiet}
use Rattle.anb_command.proofs.Written.{completes_text, told_written, told_refusal}
use Rattle.anb_chart_commands.specs.ReportCommands.{CompletesRoleChart, RoleChartOf, RoleChartText}

quiet : (files : Files) (narration name : List ℕ) → RefusesQuietly (RoleChartText files narration name)
quiet files narration name = then_quiet (part_quiet files narration name) (λ (part : Part). record { each = λ s never. absurd never })

module _ (narrations : NarrationsAreUnique) (refusals : RefusalsAreUnique) (none : NoneIsBoth) (told : Option Files) (narration name : List ℕ) where
  settled : (files : Files) → IsSettled (RoleChartText files narration name)
  settled files =
      then_settled (PartInFile files narration name) RoleChartOf (part_one narrations refusals none files narration name) (λ part. record { refuses = λ s t never. absurd never; apart = λ s text never. absurd never })

  pub writes_role_chart : (w now : Option (List ℕ)) (text : List ℕ) (s : Status) → IfTold told (λ files. RoleChartText files narration name (given text)) → IsWritten text s w now
      → IfTold told (λ files. IsWriting (RoleChartText files narration name) s w now)
  writes_role_chart w now text s due is = told_written (λ files. RoleChartText files narration name) settled (λ files. quiet files narration name) told w now text s due is

  pub refuses_role_chart : (w : Option (List ℕ)) (s : Status) (P : List ℕ → Type 0) → IsFailure s P (IfTold told (λ files. RoleChartText files narration name (refused s)))
      → IfTold told (λ files. IsWriting (RoleChartText files narration name) s w w)
  refuses_role_chart w s P fails = told_refusal (λ files. RoleChartText files narration name) settled (λ files. quiet files narration name) told w s P fails

-- where nothing failed
pub completes_role_chart : (told : Option Files) (narration name : List ℕ) (w now : Option (List ℕ)) (s : Status) → IfTold told (λ files. IsWriting (RoleChartText files narration name) s w now)
    → (is_fault s ≡ true → s ≡ NoMemory) → CompletesRoleChart narration name told s
completes_role_chart told narration name w now s does only_memory = told_map told (λ files writing. completes_text (RoleChartText files narration name) w now s writing only_memory) does
