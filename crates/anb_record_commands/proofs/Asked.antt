-- From what is prepared and recorded to what is asked for and recorded.
use Rattle.std.proofs.Common.{◌≡◌, ◌≢◌, ℕ, List, Option, Some, refl, ap, sym, ◌∙◌, subst, inl, inr}
use Rattle.std.specs.List.{AllByRecursion}
use Rattle.anb_base.specs.Bytes.{IsBytes}
use Rattle.anb_code.specs.CodeValue.{CodeValue}
use Rattle.anb_code.specs.Taking.{take_texts}
use Rattle.anb_machine.specs.ByteRuns.{run_bytes}
use Rattle.anb_plays.specs.Plays.{Played, Run}
use Rattle.anb_store.specs.Stores.{StoreState}
use Rattle.anb_status.specs.Statuses.{IsEarly, before_reach, phase_of}
use Rattle.anb_status.specs.declared.status.Status.{Status}
use Rattle.anb_status.specs.declared.status.Status.TheVariants.{NoMemory}
use Rattle.anb_command.specs.Errands.{Errand}
use Rattle.anb_command.specs.Fetches.{Files, IfTold}
use Rattle.anb_command.specs.Steps.{Answer, given}
use Rattle.anb_command.proofs.Chains.{told_map}
use Rattle.anb_role_commands.specs.EnactCommand.{RunOf}
use Rattle.anb_role_commands.specs.Jobs.{Job}
use Rattle.anb_role_commands.specs.PlayCommand.{PlayOf}
use Rattle.anb_role_commands.specs.Playing.{IsPreparedFor, play_by}
use Rattle.anb_record_commands.specs.EnactInto.{errand_values}
use Rattle.anb_record_commands.specs.Outcomes.{HasRecord, HasTranscript}
use Rattle.anb_record_commands.specs.PlayInto.{job_values}

pub not_early : (s : Status) → IsEarly s → (phase_of s ≡ before_reach → ⊥) → s ≢ NoMemory → ⊥
not_early s (inl early) late some = late early.0
not_early s (inr none) late some = some none

pub job_recorded : (Prepares : Files → Answer Job → Type 0) (told : Option Files) (code : CodeValue) (initial : List (List ℕ)) (seed : List ℕ)
    (folder : List ℕ) (store store_now : StoreState) (left : Option (List ℕ)) (end : Status)
    → IfTold told (λ files. IsPreparedFor (Prepares files) code initial seed)
    → HasTranscript (play_by code initial seed) folder store store_now (record { labels = take_texts code.instrs; initial = initial; seed = seed }) left end
    → IfTold told (λ files. HasRecord PlayOf job_values (Prepares files) folder store store_now left end)
job_recorded Prepares told code initial seed folder store store_now left end prepared transcript = told_map told (λ files p. record {
  asked = record { protocol = p.protocol; role = p.role; initial = initial; seed = seed };
  asks = p.asks;
  run = play_by code initial seed;
  comes = λ arrivals bytes. (p.comes arrivals bytes (play_by code initial seed arrivals)).1 refl;
  transcript = subst (λ (texts : List (List ℕ)). HasTranscript (play_by code initial seed) folder store store_now (record { labels = texts; initial = initial; seed = seed }) left end) p.texts transcript;
}) prepared

pub errand_recorded : (Prepares : Files → Answer Errand → Type 0) (told : Option Files) (code : CodeValue) (initial : List (List ℕ)) (seed : List ℕ)
    (folder : List ℕ) (store store_now : StoreState) (left : Option (List ℕ)) (end : Status)
    → IfTold told (λ files. Prepares files (given (record { code = code; initial = initial; seed = seed })))
    → HasTranscript (run_bytes code initial seed 0) folder store store_now (record { labels = take_texts code.instrs; initial = initial; seed = seed }) left end
    → IfTold told (λ files. HasRecord RunOf errand_values (Prepares files) folder store store_now left end)
errand_recorded Prepares told code initial seed folder store store_now left end asks transcript = told_map told (λ files is. record {
  asked = record { code = code; initial = initial; seed = seed };
  asks = is;
  run = run_bytes code initial seed 0;
  comes = λ arrivals bytes. refl;
  transcript = transcript;
}) asks
