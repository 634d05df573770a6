-- Where memory is wanting nothing more is said of a command.
use Rattle.std.proofs.Common.{ℕ, List, Option, Some, None, refl, inr}
use Rattle.anb_base.specs.Wires.{WireState}
use Rattle.anb_status.specs.declared.status.Status.TheVariants.{NoMemory}
use Rattle.anb_command.specs.Fetches.{Files, IfTold}
use Rattle.anb_branch_commands.specs.BranchCommand.{CompletesBranch}
use Rattle.anb_host_commands.specs.HostCommand.{CompletesHost}
use Rattle.anb_role_commands.specs.EnactCommand.{CompletesEnact}
use Rattle.anb_role_commands.specs.PlayCommand.{CompletesPlay}

always : {A : Type 0} (told : Option A) (P : A → Type 0) → ((a : A) → P a) → IfTold told P
always None P all = tt
always (Some a) P all = all a

pub play_wants : (narration name values : List ℕ) (told : Option Files) (host_seed : Option (List ℕ)) (S T : WireState) → CompletesPlay narration name values told host_seed S T NoMemory
play_wants narration name values told host_seed S T = always told _ (λ files. always S.left _ (λ left job later bytes asks hears. inr refl))

pub enact_wants : (code values : List ℕ) (told : Option Files) (host_seed : Option (List ℕ)) (S T : WireState) → CompletesEnact code values told host_seed S T NoMemory
enact_wants code values told host_seed S T = always told _ (λ files. always S.left _ (λ left errand arrivals tail bytes cut asks ends. inr refl))

pub branch_wants : (narration role values : List ℕ) (arm : Option ℕ) (told : Option Files) (host_seed : Option (List ℕ)) (S T : WireState) → CompletesBranch narration role values arm told host_seed S T NoMemory
branch_wants narration role values arm told host_seed S T = always told _ (λ files. always S.left _ (λ left job later bytes asks hears. inr refl))

pub host_wants : (narration name values : List ℕ) (told : Option Files) (host_seed : Option (List ℕ)) (S T : WireState) → CompletesHost narration name values told host_seed S T NoMemory
host_wants narration name values told host_seed S T = always told _ (λ files. always S.left _ (λ left job events bytes asks frames fewer. inr refl))
