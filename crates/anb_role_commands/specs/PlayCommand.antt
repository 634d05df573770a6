-- What `play` does: the play of a role, on a wire.
use Rattle.std.specs.Prelude.{◌≡◌, ◌⊎◌, ℕ, List, Option, Some}
use Rattle.anb_base.specs.Bytes.{IsBytes}
use Rattle.anb_base.specs.Wires.{WireState}
use Rattle.anb_plays.specs.Plays.{Played}
use Rattle.anb_protocol.specs.Plays.{IsPlay}
use Rattle.anb_status.specs.declared.status.Status.{Status}
use Rattle.anb_status.specs.declared.status.Status.TheVariants.{Done, NoMemory}
use Rattle.anb_command.specs.Fetches.{Files, IfTold}
use Rattle.anb_command.specs.Outcomes.{RunsOver}
use Rattle.anb_command.specs.Steps.{given}
use Rattle.anb_role_commands.specs.Completions.{HearsAll}
use Rattle.anb_role_commands.specs.Jobs.{IsRead, Job, JobIs}

-- what comes of a job over these arrivals: the play of the role's plan, in session 0
abbrev pub PlayOf : Job → List (List ℕ) → Played (List ℕ) → Type 0
PlayOf job arrivals p = IsPlay job.protocol job.role job.initial job.seed 0 arrivals p

module _ (narration name values : List ℕ) (told : Option Files) (host_seed : Option (List ℕ))
    (old new : WireState) (status : Status) where
  abbrev pub DoesPlay : Type 0
  DoesPlay =
      RunsOver PlayOf (λ files. JobIs files narration name values host_seed)
      (λ files. IsRead files narration name values) told old new status

  -- where nothing failed and the input has all that it waits for, it is done, and exactly these frames
  -- are read; else memory was wanting
  abbrev pub CompletesPlay : Type 0
  CompletesPlay =
      IfTold told (λ files. IfTold old.left (λ left. (job : Job) (later : List ℕ) → IsBytes left
      → JobIs files narration name values host_seed (given job) → HearsAll job left later
      → ((status ≡ Done) × (new.left ≡ Some later)) ⊎ (status ≡ NoMemory)))
