-- What is done where a record may go to a file of a store: `park` and `resume` with such a file, and
-- all that is done without one.
use Rattle.std.specs.Prelude.{ℕ, Bool, true, List, Option, Some, None}
use Rattle.anb_base.specs.Wires.{WireState}
use Rattle.anb_base.specs.declared.place.Place.{Place}
use Rattle.anb_stage.specs.Children.{Child}
use Rattle.anb_store.specs.Stores.{StoreState}
use Rattle.anb_status.specs.declared.status.Status.{Status}
use Rattle.anb_status.specs.Statuses.{Phase, phase_of}
use Rattle.anb_command.specs.Fetches.{Files}
use Rattle.anb_words.specs.Words.{Asked, files_of, place_of}
use Rattle.anb_park_commands.specs.ParkCommand.{CompletesParkInto, DoesParkInto}
use Rattle.anb_park_commands.specs.Parking.{HasParkCause}
use Rattle.anb_park_commands.specs.ResumeCommand.{CompletesResumeInto, DoesResumeInto}
use Rattle.anb_park_commands.specs.Words.{Recorded, park, resume, without_file}
use Rattle.anb_stage_commands.specs.Words.{Staged}
use Rattle.anb_run.specs.Stages.{CompletesAny, DoesAny, HasAnyCause, IsAsked, all_files, all_phase, all_places, all_reading}

-- the name of the record's file
abbrev pub file_of : Recorded → List ℕ
file_of (park narration role values key place file) = file
file_of (resume narration role parked key place file) = file

-- ---- by the files, the seed, the children, the wire and the store

module _ (told : Option Files) (seed : Option (List ℕ)) (old new : WireState) (store store_now : StoreState) (status : Status) where
  abbrev pub DoesRecorded : Recorded → Type 0
  DoesRecorded (park narration role values key place file) =
      DoesParkInto narration role values key seed told old new status file store store_now
  DoesRecorded (resume narration role parked key place file) =
      DoesResumeInto narration role parked key told old new status file store store_now

  abbrev pub CompletesRecorded : Recorded → Type 0
  CompletesRecorded (park narration role values key place file) =
      CompletesParkInto narration role values key seed told old new status
  CompletesRecorded (resume narration role parked key place file) =
      CompletesResumeInto narration role parked key told old new status

-- ---- with the words of a record's file, and without

-- the words ask for something
abbrev pub IsAskedStoring : Option Recorded → Option Staged → Option Asked → Type 0
IsAskedStoring (Some r) staged asked = Unit {0}
IsAskedStoring None staged asked = IsAsked staged asked

-- the files, the place, and whether the input is read
abbrev pub storing_files : Option Recorded → Option Staged → Option Asked → List (List ℕ)
storing_files (Some r) staged asked = files_of (Some (without_file r))
storing_files None staged asked = all_files staged asked

abbrev pub storing_places : Option Recorded → Option Staged → Option Asked → Option Place
storing_places (Some r) staged asked = place_of (Some (without_file r))
storing_places None staged asked = all_places staged asked

abbrev pub storing_reading : Option Recorded → Option Staged → Option Asked → Bool
storing_reading (Some r) staged asked = true
storing_reading None staged asked = all_reading staged asked

-- when a status comes
abbrev pub storing_phase : Option Recorded → Option Staged → Option Asked → Status → Phase
storing_phase (Some r) staged asked status = phase_of status
storing_phase None staged asked status = all_phase staged asked status

module _ (staged : Option Staged) (asked : Option Asked) (told : Option Files) (seed : Option (List ℕ)) (children children_now : ℕ → Child)
    (old new : WireState) (store store_now : StoreState) (status : Status) where
  abbrev pub DoesStoring : Option Recorded → Type 0
  DoesStoring (Some r) = DoesRecorded told seed old new store store_now status r
  DoesStoring None = DoesAny asked told seed children children_now old new status staged

  abbrev pub CompletesStoring : Option Recorded → Type 0
  CompletesStoring (Some r) = CompletesRecorded told seed old new store store_now status r
  CompletesStoring None = CompletesAny asked told seed children children_now old new status staged

-- why a fault is answered
module _ (staged : Option Staged) (asked : Option Asked) (faults faults_now : List ℕ → ℕ) (children children_now : ℕ → Child)
    (old new : WireState) (store store_now : StoreState) (status : Status) where
  abbrev pub HasStoringCause : Option Recorded → Type 0
  HasStoringCause (Some r) =
      HasParkCause (file_of r) (files_of (Some (without_file r))) (place_of (Some (without_file r))) faults faults_now old new store store_now status
  HasStoringCause None = HasAnyCause asked faults faults_now children children_now old new status staged
