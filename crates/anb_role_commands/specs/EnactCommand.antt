-- What `enact` does: the run of a code, on a wire.
use Rattle.std.specs.Prelude.{◌≡◌, ◌⊎◌, ℕ, List, Option}
use Rattle.anb_base.specs.Bytes.{IsBytes}
use Rattle.anb_base.specs.Wires.{WireState}
use Rattle.anb_base.specs.declared.TheConstants.{ARRIVAL}
use Rattle.anb_code.specs.CodeValue.{CodeValue}
use Rattle.anb_frame.specs.Cuts.{Tail, Cut}
use Rattle.anb_machine.specs.ByteRuns.{run_bytes}
use Rattle.anb_plays.specs.Plays.{Played, done}
use Rattle.anb_status.specs.declared.status.Status.{Status}
use Rattle.anb_status.specs.declared.status.Status.TheVariants.{Done, NoMemory}
use Rattle.anb_command.specs.Errands.{Errand, ErrandOf}
use Rattle.anb_command.specs.Fetches.{Files, IfTold}
use Rattle.anb_command.specs.Files.{CodeInFile}
use Rattle.anb_command.specs.Outcomes.{RunsOver}
use Rattle.anb_command.specs.Steps.{Answer, given, InTurn}

module _ (files : Files) where
  -- what is asked, or the first refusal: of the role file, of the values, or of the seed
  abbrev pub ErrandIs : (code values : List ℕ) → Option (List ℕ) → Answer Errand → Type 0
  ErrandIs code values host_seed = InTurn (CodeInFile files code) (ErrandOf files values host_seed)

  -- the role file is read, and where it has a code, the values file
  abbrev pub IsReadFor : (code values : List ℕ) → List ℕ → Type 0
  IsReadFor code values file =
      (file ≡ code) ⊎ ((file ≡ values) × ((loaded : CodeValue) × CodeInFile files code (given loaded)))

-- what comes of an errand over these arrivals: the run of its code, in session 0, which tells the
-- instruction of a stop
abbrev pub RunOf : Errand → List (List ℕ) → Played (List ℕ) → Type 0
RunOf errand arrivals p = p ≡ run_bytes errand.code errand.initial errand.seed 0 arrivals

module _ (code values : List ℕ) (told : Option Files) (host_seed : Option (List ℕ))
    (old new : WireState) (status : Status) where
  abbrev pub DoesEnact : Type 0
  DoesEnact =
      RunsOver RunOf (λ files. ErrandIs files code values host_seed)
      (λ files. IsReadFor files code values) told old new status

  -- where nothing failed and the code's run over the input's arrivals is done, so is the command, or
  -- memory was wanting
  abbrev pub CompletesEnact : Type 0
  CompletesEnact =
      IfTold told (λ files. IfTold old.left (λ left. (errand : Errand) (arrivals : List (List ℕ)) (tail : Tail)
      → IsBytes left → Cut ARRIVAL left arrivals tail → ErrandIs files code values host_seed (given errand)
      → (run_bytes errand.code errand.initial errand.seed 0 arrivals).end ≡ done
      → (status ≡ Done) ⊎ (status ≡ NoMemory)))
