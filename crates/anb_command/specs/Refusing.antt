-- What is refused before the wire is reached.
use Rattle.std.specs.Prelude.{◌≡◌, ℕ, List, false}
use Rattle.anb_status.specs.declared.status.Status.{Status}
use Rattle.anb_status.specs.Statuses.{is_fault, phase_of, before_reach, OnFileFault}
use Rattle.anb_command.specs.Steps.{Answer, refused, IsFailure}

-- the refusals of words and files are those that are asked for, in both directions
pub record IsRefusing {A : Type 0} (Prepares : Answer A → Type 0) (Reads : List ℕ → Type 0) (result : Status) : Type 0 where
  -- a refusal is one
  pub is : phase_of result ≡ before_reach → is_fault result ≡ false → Prepares (refused result)
  -- and each one is the answer, unless a file failed or memory was wanting
  pub only : (status : Status) → Prepares (refused status) → IsFailure result (λ _. Unit {0}) (result ≡ status)
  -- a file that failed is one that is read
  pub file : OnFileFault result Reads
