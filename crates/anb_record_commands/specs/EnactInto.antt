-- What `enact` does where it is recorded in a folder.
use Rattle.std.specs.Prelude.{ℕ, List, Option}
use Rattle.anb_base.specs.Wires.{WireState}
use Rattle.anb_code.specs.Taking.{take_texts}
use Rattle.anb_store.specs.Stores.{StoreState}
use Rattle.anb_status.specs.declared.status.Status.{Status}
use Rattle.anb_command.specs.Errands.{Errand}
use Rattle.anb_command.specs.Fetches.{Files, IfTold}
use Rattle.anb_role_commands.specs.EnactCommand.{CompletesEnact, DoesEnact, ErrandIs, RunOf}
use Rattle.anb_recorded.specs.Outcomes.{CompletesInFolder, DoesInFolder}
use Rattle.anb_record_commands.specs.Outcomes.{HasRecord, IsOfFolder, Valued}

-- the values of an errand, and the seed of its draws
abbrev pub errand_values : Errand → Valued
errand_values errand = record { labels = take_texts errand.code.instrs; initial = errand.initial; seed = errand.seed }

module _ (code values : List ℕ) (told : Option Files) (host_seed : Option (List ℕ))
    (old new : WireState) (folder : List ℕ) (store store_now : StoreState) where
  -- what is recorded of a run that ended so
  abbrev pub RecordsEnact : Status → Type 0
  RecordsEnact end =
      IfTold told (λ files. HasRecord RunOf errand_values (ErrandIs files code values host_seed) folder store store_now old.left end)

  abbrev pub DoesEnactInto : Status → Type 0
  DoesEnactInto status = DoesInFolder old new (IsOfFolder folder) store store_now status (DoesEnact code values told host_seed old new) RecordsEnact

  abbrev pub CompletesEnactInto : Status → Type 0
  CompletesEnactInto status =
      CompletesInFolder old new (IsOfFolder folder) store store_now status (DoesEnact code values told host_seed old new) RecordsEnact
      (CompletesEnact code values told host_seed old new)
