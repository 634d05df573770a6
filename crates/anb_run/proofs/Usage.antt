-- When the words fit no command.
use Rattle.std.proofs.Common.{◌≡◌, ℕ, List, [], ◌∷◌, Option, Some, None, refl, sym, ◌∙◌, subst}
use Rattle.std.specs.Prelude.{◌↔◌}
use Rattle.anb_base.specs.Wires.{WireState}
use Rattle.anb_stage.specs.Children.{Child}
use Rattle.anb_words.specs.Words.{Asked, files_of, place_of}
use Rattle.anb_status.specs.declared.status.Status.{Status}
use Rattle.anb_status.specs.declared.status.Status.TheVariants.{Usage}
use Rattle.anb_stage_commands.specs.StageCommand.{HasStageCause}
use Rattle.anb_stage_commands.specs.Words.{Staged}
use Rattle.anb_store.specs.Stores.{StoreState}
use Rattle.anb_park_commands.specs.Parking.{HasParkCause}
use Rattle.anb_park_commands.specs.Words.{Recorded, park, resume, without_file}
use Rattle.anb_recorded.specs.Outcomes.{HasRecordCause}
use Rattle.anb_record_commands.specs.Words as recording
use Rattle.anb_record_commands.specs.Words.{IsFileOf, Recording, without_folder}
use Rattle.anb_run.specs.Recordings.{IsAskedRecording}
use Rattle.anb_run.specs.Stages.{IsAsked}
use Rattle.anb_run.specs.Stores.{IsAskedStoring, file_of}

pub usage_none : (asked : Option Asked) (P : Type 0) → P ↔ (asked ≡ None) → P ↔ (IsAsked None asked → ⊥)
usage_none None P is = (λ p never. never, λ none. is.1 refl)
usage_none (Some a) P is = (λ p. absurd (let never = is.0 p in cc), λ none. absurd (none tt))

-- a stage has a place
pub usage_some : (s : Staged) (asked : Option Asked) (limit : Option ℕ) (names : List (List ℕ)) (faults faults_now : List ℕ → ℕ) (children children_now : ℕ → Child) (old new : WireState) (status : Status)
    → HasStageCause limit names faults faults_now children children_now old new status → (status ≡ Usage) ↔ (IsAsked (Some s) asked → ⊥)
usage_some s asked limit names faults faults_now children children_now old new status cause =
    (λ is. absurd (let never = subst (HasStageCause limit names faults faults_now children children_now old new) is cause in cc), λ none. absurd (none tt))

-- a session has a place
pub usage_recorded : (r : Recorded) (staged : Option Staged) (asked : Option Asked) (faults faults_now : List ℕ → ℕ) (old new : WireState) (store store_now : StoreState) (status : Status)
    → HasParkCause (file_of r) (files_of (Some (without_file r))) (place_of (Some (without_file r))) faults faults_now old new store store_now status
    → (status ≡ Usage) ↔ (IsAskedStoring (Some r) staged asked → ⊥)
usage_recorded r staged asked faults faults_now old new store store_now status cause = (λ is. absurd (has_place r is cause), λ none. absurd (none tt)) where
  has_place : (q : Recorded) → status ≡ Usage
      → HasParkCause (file_of q) (files_of (Some (without_file q))) (place_of (Some (without_file q))) faults faults_now old new store store_now status → ⊥
  has_place (park narration role values key place file) is at =
      let never = subst (HasParkCause file (narration ∷ values ∷ key ∷ []) (Some place) faults faults_now old new store store_now) is at in cc
  has_place (resume narration role parked key place file) is at =
      let never = subst (HasParkCause file (narration ∷ parked ∷ key ∷ []) (Some place) faults faults_now old new store store_now) is at in cc

-- a recorded play has one too
pub usage_recording : (r : Recording) (kept : Option Recorded) (staged : Option Staged) (asked : Option Asked) (faults faults_now : List ℕ → ℕ) (old new : WireState) (store store_now : StoreState) (status : Status)
    → HasRecordCause (IsFileOf r) store store_now (files_of (Some (without_folder r))) (place_of (Some (without_folder r))) faults faults_now old new status
    → (status ≡ Usage) ↔ (IsAskedRecording (Some r) kept staged asked → ⊥)
usage_recording r kept staged asked faults faults_now old new store store_now status cause = (λ is. absurd (has_place r is cause), λ none. absurd (none tt)) where
  has_place : (q : Recording) → status ≡ Usage
      → HasRecordCause (IsFileOf q) store store_now (files_of (Some (without_folder q))) (place_of (Some (without_folder q))) faults faults_now old new status → ⊥
  has_place (recording.play narration role values place folder) is at =
      let never = subst (HasRecordCause (IsFileOf (recording.play narration role values place folder)) store store_now (narration ∷ values ∷ []) (Some place) faults faults_now old new) is at in cc
  has_place (recording.enact code values place folder) is at =
      let never = subst (HasRecordCause (IsFileOf (recording.enact code values place folder)) store store_now (code ∷ values ∷ []) (Some place) faults faults_now old new) is at in cc
  has_place (recording.branch narration role values arm place folder) is at =
      let never = subst (HasRecordCause (IsFileOf (recording.branch narration role values arm place folder)) store store_now (narration ∷ values ∷ []) (Some place) faults faults_now old new) is at in cc
  has_place (recording.host narration role values place folder) is at =
      let never = subst (HasRecordCause (IsFileOf (recording.host narration role values place folder)) store store_now (narration ∷ values ∷ []) (Some place) faults faults_now old new) is at in cc
