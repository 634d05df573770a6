-- What `branch` does: the play of a role in the arm that is taken, on a wire.
use Rattle.std.specs.Prelude.{◌≡◌, ◌⊎◌, ℕ, List, Option, Some, slice_get}
use Rattle.anb_base.specs.Bytes.{IsBytes}
use Rattle.anb_base.specs.Wires.{WireState}
use Rattle.anb_plays.specs.Plays.{Played}
use Rattle.anb_protocol.specs.Protocols.{ProtocolValue, role_number}
use Rattle.anb_branch.specs.Taken.{IsPlayTaken, place_taken}
use Rattle.anb_status.specs.declared.status.Status.{Status}
use Rattle.anb_status.specs.declared.status.Status.TheVariants.{Done, NoMemory}
use Rattle.anb_command.specs.Fetches.{Files, IfTold}
use Rattle.anb_command.specs.Outcomes.{RunsOver}
use Rattle.anb_command.specs.Steps.{given}
use Rattle.anb_role_commands.specs.Completions.{HearsAll}
use Rattle.anb_role_commands.specs.Jobs.{Job}
use Rattle.anb_branch_commands.specs.BranchJobs.{BranchJob, BranchJobIs, IsReadToBranch}

-- what comes of a job over these arrivals: the play of the role in the protocol of the arm that is
-- taken, in session 0
abbrev pub BranchPlayOf : BranchJob → List (List ℕ) → Played (List ℕ) → Type 0
BranchPlayOf job arrivals p =
    IsPlayTaken job.branched job.role job.told job.initial job.seed arrivals p

-- the job in one arm, which is one of the arm's own narration
abbrev pub job_in : BranchJob → ProtocolValue → Job
job_in job arm = record {
  protocol = arm;
  role = role_number arm.roles job.role;
  initial = job.initial;
  seed = job.seed;
}

-- a frame for each receive of the role in the arm that is taken, after which all agrees, and later
-- bytes
pub record HearsArm (job : BranchJob) (left later : List ℕ) : Type 0 where
  pub arm : ProtocolValue
  pub hears : HearsAll (job_in job arm) left later
  pub taken : slice_get job.branched.arms
      (place_taken job.branched job.role job.told hears.heard) ≡ Some arm

module _ (narration role values : List ℕ) (arm : Option ℕ) (told : Option Files)
    (host_seed : Option (List ℕ)) (old new : WireState) (status : Status) where
  abbrev pub DoesBranch : Type 0
  DoesBranch =
      RunsOver BranchPlayOf (λ files. BranchJobIs files narration role values arm host_seed)
      (λ files. IsReadToBranch files narration role values arm) told old new status

  -- where nothing failed and the input has all that the role waits for, it is done, and exactly
  -- these frames are read; else memory was wanting
  abbrev pub CompletesBranch : Type 0
  CompletesBranch =
      IfTold told (λ files. IfTold old.left (λ left.
      (job : BranchJob) (later : List ℕ) → IsBytes left
      → BranchJobIs files narration role values arm host_seed (given job) → HearsArm job left later
      → ((status ≡ Done) × (new.left ≡ Some later)) ⊎ (status ≡ NoMemory)))
