-- What is done where a play may be recorded: `play`, `enact`, `branch` and `host` with a folder, and all that is
-- done without one.
use Rattle.std.specs.Prelude.{ℕ, Bool, true, List, Option, Some, None}
use Rattle.anb_base.specs.Wires.{WireState}
use Rattle.anb_base.specs.declared.place.Place.{Place}
use Rattle.anb_stage.specs.Children.{Child}
use Rattle.anb_store.specs.Stores.{StoreState}
use Rattle.anb_status.specs.declared.status.Status.{Status}
use Rattle.anb_status.specs.Statuses.{Phase}
use Rattle.anb_command.specs.Causes.{DidNotRise}
use Rattle.anb_command.specs.Fetches.{Files}
use Rattle.anb_words.specs.Words.{Asked, files_of, place_of}
use Rattle.anb_park_commands.specs.Words.{Recorded}
use Rattle.anb_record_commands.specs.BranchInto.{CompletesBranchInto, DoesBranchInto}
use Rattle.anb_record_commands.specs.EnactInto.{CompletesEnactInto, DoesEnactInto}
use Rattle.anb_record_commands.specs.HostInto.{CompletesHostInto, DoesHostInto}
use Rattle.anb_recorded.specs.Outcomes.{HasRecordCause, recorded_phase}
use Rattle.anb_record_commands.specs.PlayInto.{CompletesPlayInto, DoesPlayInto}
use Rattle.anb_record_commands.specs.Words.{IsFileOf, Recording, branch, enact, host, play, without_folder}
use Rattle.anb_stage_commands.specs.Words.{Staged}
use Rattle.anb_run.specs.Stores.{CompletesStoring, DoesStoring, HasStoringCause, IsAskedStoring, storing_files, storing_phase, storing_places, storing_reading}

-- the words ask for something
abbrev pub IsAskedRecording : Option Recording → Option Recorded → Option Staged → Option Asked → Type 0
IsAskedRecording (Some r) kept staged asked = Unit {0}
IsAskedRecording None kept staged asked = IsAskedStoring kept staged asked

-- the files, the place, and whether the input is read
abbrev pub recording_files : Option Recording → Option Recorded → Option Staged → Option Asked → List (List ℕ)
recording_files (Some r) kept staged asked = files_of (Some (without_folder r))
recording_files None kept staged asked = storing_files kept staged asked

abbrev pub recording_places : Option Recording → Option Recorded → Option Staged → Option Asked → Option Place
recording_places (Some r) kept staged asked = place_of (Some (without_folder r))
recording_places None kept staged asked = storing_places kept staged asked

abbrev pub recording_reading : Option Recording → Option Recorded → Option Staged → Option Asked → Bool
recording_reading (Some r) kept staged asked = true
recording_reading None kept staged asked = storing_reading kept staged asked

-- when a status comes
abbrev pub recording_phase : Option Recording → Option Recorded → Option Staged → Option Asked → Status → Phase
recording_phase (Some r) kept staged asked status = recorded_phase status
recording_phase None kept staged asked status = storing_phase kept staged asked status

-- by the files, the seed, the wire and the store
abbrev pub DoesInto : Option Files → Option (List ℕ) → (old new : WireState) → (store store_now : StoreState) → Status → Recording → Type 0
DoesInto told seed old new store store_now status (play narration role values place folder) =
    DoesPlayInto narration role values told seed old new folder store store_now status
DoesInto told seed old new store store_now status (enact code values place folder) =
    DoesEnactInto code values told seed old new folder store store_now status
DoesInto told seed old new store store_now status (branch narration role values arm place folder) =
    DoesBranchInto narration role values arm told seed old new folder store store_now status
DoesInto told seed old new store store_now status (host narration role values place folder) =
    DoesHostInto narration role values told seed old new folder store store_now status

-- where nothing failed
abbrev pub CompletesInto : Option Files → Option (List ℕ) → (old new : WireState) → (store store_now : StoreState) → Status → Recording → Type 0
CompletesInto told seed old new store store_now status (play narration role values place folder) =
    CompletesPlayInto narration role values told seed old new folder store store_now status
CompletesInto told seed old new store store_now status (enact code values place folder) =
    CompletesEnactInto code values told seed old new folder store store_now status
CompletesInto told seed old new store store_now status (branch narration role values arm place folder) =
    CompletesBranchInto narration role values arm told seed old new folder store store_now status
CompletesInto told seed old new store store_now status (host narration role values place folder) =
    CompletesHostInto narration role values told seed old new folder store store_now status

module _ (kept : Option Recorded) (staged : Option Staged) (asked : Option Asked) (told : Option Files) (seed : Option (List ℕ)) (children children_now : ℕ → Child)
    (old new : WireState) (store store_now : StoreState) (status : Status) where
  abbrev pub DoesRecording : Option Recording → Type 0
  DoesRecording (Some r) = DoesInto told seed old new store store_now status r
  DoesRecording None = DoesStoring staged asked told seed children children_now old new store store_now status kept

  abbrev pub CompletesRecording : Option Recording → Type 0
  CompletesRecording (Some r) = DidNotRise store.faults store_now.faults → CompletesInto told seed old new store store_now status r
  CompletesRecording None = CompletesStoring staged asked told seed children children_now old new store store_now status kept

-- why a fault is answered
module _ (kept : Option Recorded) (staged : Option Staged) (asked : Option Asked) (faults faults_now : List ℕ → ℕ) (children children_now : ℕ → Child)
    (old new : WireState) (store store_now : StoreState) (status : Status) where
  abbrev pub HasRecordingCause : Option Recording → Type 0
  HasRecordingCause (Some r) =
      HasRecordCause (IsFileOf r) store store_now (files_of (Some (without_folder r))) (place_of (Some (without_folder r))) faults faults_now old new status
  HasRecordingCause None = HasStoringCause staged asked faults faults_now children children_now old new store store_now status kept
