-- What `branch` does where it is recorded in a folder.
use Rattle.std.specs.Prelude.{◌≡◌, ℕ, List, Option, Some, slice_get}
use Rattle.std.specs.List.{AllByRecursion}
use Rattle.anb_base.specs.Bytes.{IsBytes}
use Rattle.anb_base.specs.Wires.{WireState}
use Rattle.anb_plays.specs.Plays.{Run}
use Rattle.anb_protocol.specs.Plays.{IsPlay}
use Rattle.anb_protocol.specs.Protocols.{ProtocolValue, role_number}
use Rattle.anb_store.specs.Stores.{StoreState}
use Rattle.anb_transcript.specs.Replays.{arrivals_of}
use Rattle.anb_choice.specs.Lawful.{BranchedValue}
use Rattle.anb_branch.specs.Taken.{place_taken}
use Rattle.anb_status.specs.Statuses.{after_reach, phase_of}
use Rattle.anb_status.specs.declared.status.Status.{Status}
use Rattle.anb_command.specs.Fetches.{Files, IfTold}
use Rattle.anb_command.specs.Steps.{Answer, given}
use Rattle.anb_branch_commands.specs.BranchCommand.{CompletesBranch, DoesBranch}
use Rattle.anb_branch_commands.specs.BranchJobs.{BranchJob, BranchJobIs, known_in}
use Rattle.anb_recorded.specs.Outcomes.{CompletesInFolder, DoesInFolder}
use Rattle.anb_record_commands.specs.Outcomes.{HasTranscript, IsOfFolder, Valued}

-- What is recorded of a role is a transcript of its play in the arm that is taken over what was heard.
pub record HasArmTranscript (b : BranchedValue) (role : List ℕ) (arm_told : Option ℕ) (initial : List (List ℕ)) (seed : List ℕ)
    (folder : List ℕ) (store store_now : StoreState) (left : Option (List ℕ)) (end : Status) : Type 0 where
  pub arm : ProtocolValue
  pub run : Run
  pub comes : (arrivals : List (List ℕ)) → AllByRecursion IsBytes arrivals → IsPlay arm (role_number arm.roles role) initial seed 0 arrivals (run arrivals)
  pub transcript : HasTranscript run folder store store_now (record { labels = known_in b role; initial = initial; seed = seed }) left end
  pub taken : slice_get b.arms (place_taken b role arm_told (arrivals_of transcript.lines)) ≡ Some arm

-- the values of a job, and the seed of its draws
abbrev pub arm_values : BranchJob → Valued
arm_values job = record { labels = known_in job.branched job.role; initial = job.initial; seed = job.seed }

-- of what is asked for
pub record HasArmRecord (Prepares : Answer BranchJob → Type 0) (folder : List ℕ) (store store_now : StoreState)
    (left : Option (List ℕ)) (end : Status) : Type 0 where
  pub asked : BranchJob
  pub asks : Prepares (given asked)
  pub has : HasArmTranscript asked.branched asked.role asked.told asked.initial asked.seed folder store store_now left end

module _ (narration role values : List ℕ) (arm : Option ℕ) (told : Option Files) (host_seed : Option (List ℕ))
    (old new : WireState) (folder : List ℕ) (store store_now : StoreState) where
  -- what is recorded of a play that ended so over a wire that was reached
  abbrev pub RecordsBranch : Status → Type 0
  RecordsBranch end =
      phase_of end ≡ after_reach → IfTold told (λ files. HasArmRecord (BranchJobIs files narration role values arm host_seed) folder store store_now old.left end)

  abbrev pub DoesBranchInto : Status → Type 0
  DoesBranchInto status = DoesInFolder old new (IsOfFolder folder) store store_now status (DoesBranch narration role values arm told host_seed old new) RecordsBranch

  abbrev pub CompletesBranchInto : Status → Type 0
  CompletesBranchInto status =
      CompletesInFolder old new (IsOfFolder folder) store store_now status (DoesBranch narration role values arm told host_seed old new) RecordsBranch
      (CompletesBranch narration role values arm told host_seed old new)
