-- Why a step fails.
use Rattle.std.proofs.Common.{ℕ, List}
use Rattle.anb_status.specs.declared.status.Status.{Status}
use Rattle.anb_status.specs.declared.status.Status.TheVariants.{FileFault, NoMemory}
use Rattle.anb_command.specs.Steps.{IsFailure}

-- a failure with a cause is one with a cause that follows
pub IsFailure-map : (status : Status) (P Q : List ℕ → Type 0) (R S : Type 0) → ((file : List ℕ) → P file → Q file) → (R → S) → IsFailure status P R → IsFailure status Q S
IsFailure-map (FileFault file) P Q R S causes refusal fails = causes file fails
IsFailure-map NoMemory P Q R S causes refusal fails = tt
IsFailure-map _ P Q R S causes refusal fails = refusal fails
