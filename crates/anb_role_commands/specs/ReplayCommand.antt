-- What `replay` does: a transcript compared with the play of a role in a session.
use Rattle.std.specs.Prelude.{◌≡◌, ◌≢◌, ◌⊎◌, ℕ, false, List, Option}
use Rattle.std.specs.List.{AllByRecursion}
use Rattle.anb_base.specs.Bytes.{IsBytes}
use Rattle.anb_base.specs.Wires.{WireState}
use Rattle.anb_plays.specs.Plays.{Played}
use Rattle.anb_transcript.specs.Replays.{Replays}
use Rattle.anb_transcript.specs.declared.following.ReplayEnd.{ReplayEnd}
use Rattle.anb_transcript.specs.declared.following.ReplayEnd.TheVariants as replayed
use Rattle.anb_transcript.specs.declared.transcript.TranscriptLine.{TranscriptLine}
use Rattle.anb_status.specs.declared.status.Status.{Status}
use Rattle.anb_status.specs.declared.status.Status.TheVariants.{
  Done,
  Stopped,
  Differs,
  Short,
  ReadFault,
  WriteFault,
  NoMemory,
}
use Rattle.anb_command.specs.Fetches.{Files, IfTold}
use Rattle.anb_command.specs.Files.{TranscriptInFile}
use Rattle.anb_command.specs.Refusing.{IsRefusing}
use Rattle.anb_status.specs.Statuses.{OnUnreached, is_fault}
use Rattle.anb_command.specs.Steps.{Answer, refused, given, InTurn, AnswersWith}
use Rattle.anb_role_commands.specs.Jobs.{IsRead, Job, JobIs}
use Rattle.anb_role_commands.specs.Playing.{PlayIn}

-- what a role plays, and the lines that are compared with it
pub record Comparison : Type 0 where
  pub job : Job
  pub lines : List TranscriptLine

-- the status of a replay that ends so; it tells no instruction of a stop
abbrev pub status_of : ReplayEnd → Status
status_of replayed.Follows = Done
status_of (replayed.Differs line due) = Differs line due
status_of (replayed.Short event) = Short event
status_of (replayed.Stopped halt line) = Stopped (record { event = halt.event; at = 0 })
status_of replayed.NoMemory = NoMemory

-- what comes of the lines over the plays of the job in this session, which this function gives
pub record Compares (session : ℕ) (asked : Comparison) (status : Status) : Type 0 where
  pub plays : List (List ℕ) → Played (List ℕ)
  pub are : (arrivals : List (List ℕ)) → AllByRecursion IsBytes arrivals → PlayIn session asked.job arrivals (plays arrivals)
  pub end : ReplayEnd
  pub some : end ≢ replayed.NoMemory
  pub replays : Replays plays asked.lines end
  pub is : status ≡ status_of end

-- all that changed is what tells of reaching the place: nothing is read or written
abbrev pub OnlyReaches : (old new : WireState) → Type 0
OnlyReaches old new = new ≡ record old { reached = new.reached; reach_faults = new.reach_faults }

module _ (narration name values transcript : List ℕ) (host_seed : Option (List ℕ)) where
  -- What is asked, or the first refusal: of what is played, as `play` has it, and then of the transcript.
  abbrev pub ComparisonIs : Files → Answer Comparison → Type 0
  ComparisonIs files =
      InTurn (JobIs files narration name values host_seed) (λ job.
      InTurn (TranscriptInFile files transcript) (λ lines.
      AnswersWith (record { job = job; lines = lines })))

  -- the files of a play are read as for `play`, and where there is something to play, the transcript
  abbrev pub IsReadToCompare : Files → List ℕ → Type 0
  IsReadToCompare files file =
      IsRead files narration name values file
      ⊎ ((file ≡ transcript) × ((job : Job) × JobIs files narration name values host_seed (given job)))

  -- in this session
  module _ (session : ℕ) where
    -- the status where no fault comes: that of a refusal, or of a comparison
    abbrev pub ReplayOutcome : Files → Status → Type 0
    ReplayOutcome files status =
        ComparisonIs files (refused status)
        ⊎ ((asked : Comparison) × ComparisonIs files (given asked) × Compares session asked status)

    module _ (told : Option Files) where
      pub record DoesReplay (old new : WireState) (status : Status) : Type 0 where
        pub refuses : IfTold told (λ files. IsRefusing (ComparisonIs files) (IsReadToCompare files) status)
        -- the status is an outcome, and each outcome is the status
        pub is : IfTold told (λ files. is_fault status ≡ false → ReplayOutcome files status)
        pub only : IfTold told (λ files.
            is_fault status ≡ false → (due : Status) → ReplayOutcome files due → status ≡ due)
        -- the place is tried only where there is something to compare
        pub unreached : IfTold told (λ files.
            OnUnreached status (λ _. (asked : Comparison) × ComparisonIs files (given asked)))
        -- whatever the status
        pub only_reaches : OnlyReaches old new
        pub no_read_fault : status ≢ ReadFault
        pub no_write_fault : status ≢ WriteFault

      -- where nothing failed and no other outcome is there, it is done, or memory was wanting
      abbrev pub CompletesReplay : Status → Type 0
      CompletesReplay status =
          IfTold told (λ files. ((due : Status) → ReplayOutcome files due → due ≡ Done)
          → (status ≡ Done) ⊎ (status ≡ NoMemory))
