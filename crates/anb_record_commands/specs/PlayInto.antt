-- What `play` does where it is recorded in a folder.
use Rattle.std.specs.Prelude.{ℕ, List, Option}
use Rattle.anb_base.specs.Wires.{WireState}
use Rattle.anb_protocol.specs.Texts.{known_texts}
use Rattle.anb_store.specs.Stores.{StoreState}
use Rattle.anb_status.specs.declared.status.Status.{Status}
use Rattle.anb_command.specs.Fetches.{Files, IfTold}
use Rattle.anb_role_commands.specs.Jobs.{Job, JobIs}
use Rattle.anb_role_commands.specs.PlayCommand.{CompletesPlay, DoesPlay, PlayOf}
use Rattle.anb_recorded.specs.Outcomes.{CompletesInFolder, DoesInFolder}
use Rattle.anb_record_commands.specs.Outcomes.{HasRecord, IsOfFolder, Valued}

-- the values of a job, and the seed of its draws
abbrev pub job_values : Job → Valued
job_values job = record { labels = known_texts job.protocol job.role; initial = job.initial; seed = job.seed }

module _ (narration name values : List ℕ) (told : Option Files) (host_seed : Option (List ℕ))
    (old new : WireState) (folder : List ℕ) (store store_now : StoreState) where
  -- what is recorded of a play that ended so
  abbrev pub RecordsPlay : Status → Type 0
  RecordsPlay end =
      IfTold told (λ files. HasRecord PlayOf job_values (JobIs files narration name values host_seed) folder store store_now old.left end)

  abbrev pub DoesPlayInto : Status → Type 0
  DoesPlayInto status = DoesInFolder old new (IsOfFolder folder) store store_now status (DoesPlay narration name values told host_seed old new) RecordsPlay

  abbrev pub CompletesPlayInto : Status → Type 0
  CompletesPlayInto status =
      CompletesInFolder old new (IsOfFolder folder) store store_now status (DoesPlay narration name values told host_seed old new) RecordsPlay
      (CompletesPlay narration name values told host_seed old new)
