-- What is done where a program may be tested: `probe`, which starts it once a case, and may be recorded, and every
-- other command as without it.
use Rattle.std.specs.Prelude.{ℕ, Bool, false, List, Option, Some, None}
use Rattle.anb_base.specs.Wires.{WireState}
use Rattle.anb_base.specs.declared.place.Place.{Place}
use Rattle.anb_base.specs.declared.place.Place.TheVariants.{Stdio}
use Rattle.anb_stage.specs.Children.{Child}
use Rattle.anb_store.specs.Stores.{StoreState}
use Rattle.anb_partner.specs.Trials.{Trial}
use Rattle.anb_status.specs.declared.status.Status.{Status}
use Rattle.anb_status.specs.Statuses.{Phase}
use Rattle.anb_command.specs.Causes.{DidNotRise}
use Rattle.anb_command.specs.Fetches.{Files}
use Rattle.anb_words.specs.Words.{Asked}
use Rattle.anb_park_commands.specs.Words.{Recorded}
use Rattle.anb_record_commands.specs.Words.{Recording}
use Rattle.anb_stage_commands.specs.Words.{Staged}
use Rattle.anb_probe_commands.specs.ProbeCommand.{CompletesProbe, DoesProbe, HasProbeCause, StartFailed, probe_files, probe_phase}
use Rattle.anb_probe_commands.specs.ProbeInto.{CompletesProbeInto, DoesProbeInto, HasProbeIntoCause, into_phase}
use Rattle.anb_probe_commands.specs.Words.{Probed}
use Rattle.anb_run.specs.Recordings.{CompletesRecording, DoesRecording, HasRecordingCause, IsAskedRecording, recording_files, recording_phase, recording_places, recording_reading}

-- ---- a test

-- the folder of its record, where there is one
abbrev pub folder_in : Option Probed → Option (List ℕ)
folder_in None = None
folder_in (Some p) = p.trying.folder

-- when a status comes
abbrev pub test_phase : (folder : Option (List ℕ)) → Status → Phase
test_phase None status = probe_phase status
test_phase (Some folder) status = into_phase status

module _ (p : Probed) (trials trials_now : ℕ → Trial) (old new : WireState) (store store_now : StoreState) (status : Status) where
  module _ (told : Option Files) (seed : Option (List ℕ)) where
    abbrev pub DoesTest : (folder : Option (List ℕ)) → Type 0
    DoesTest None = DoesProbe p told seed trials trials_now old new status
    DoesTest (Some folder) = DoesProbeInto p folder told seed trials trials_now old new store store_now status

    abbrev pub CompletesTest : (folder : Option (List ℕ)) → Type 0
    CompletesTest None = (StartFailed trials trials_now → ⊥) → CompletesProbe p told seed trials trials_now old new status
    CompletesTest (Some folder) =
        (StartFailed trials trials_now → ⊥) → DidNotRise store.faults store_now.faults
        → CompletesProbeInto p folder told seed trials trials_now old new store store_now status

  -- why a fault is answered
  abbrev pub HasTestCause : (faults faults_now : List ℕ → ℕ) → (folder : Option (List ℕ)) → Type 0
  HasTestCause faults faults_now None = HasProbeCause (probe_files p) faults faults_now trials trials_now old new status
  HasTestCause faults faults_now (Some folder) =
      HasProbeIntoCause folder store store_now (probe_files p) faults faults_now trials trials_now old new status

-- ---- all commands

-- the words ask for something
abbrev pub IsAskedTesting : Option Probed → Option Recording → Option Recorded → Option Staged → Option Asked → Type 0
IsAskedTesting (Some p) recording kept staged asked = Unit {0}
IsAskedTesting None recording kept staged asked = IsAskedRecording recording kept staged asked

-- The files, the place, and whether the input is read: a test reads its narration and its values, and no
-- input.
abbrev pub testing_files : Option Probed → Option Recording → Option Recorded → Option Staged → Option Asked → List (List ℕ)
testing_files (Some p) recording kept staged asked = probe_files p
testing_files None recording kept staged asked = recording_files recording kept staged asked

abbrev pub testing_places : Option Probed → Option Recording → Option Recorded → Option Staged → Option Asked → Option Place
testing_places (Some p) recording kept staged asked = Some Stdio
testing_places None recording kept staged asked = recording_places recording kept staged asked

abbrev pub testing_reading : Option Probed → Option Recording → Option Recorded → Option Staged → Option Asked → Bool
testing_reading (Some p) recording kept staged asked = false
testing_reading None recording kept staged asked = recording_reading recording kept staged asked

-- when a status comes
abbrev pub testing_phase : Option Probed → Option Recording → Option Recorded → Option Staged → Option Asked → Status → Phase
testing_phase (Some p) recording kept staged asked status = test_phase p.trying.folder status
testing_phase None recording kept staged asked status = recording_phase recording kept staged asked status

-- by the files, the seed, the children, the trials, the wire and the store
module _ (recording : Option Recording) (kept : Option Recorded) (staged : Option Staged) (asked : Option Asked)
    (told : Option Files) (seed : Option (List ℕ)) (children children_now : ℕ → Child) (trials trials_now : ℕ → Trial)
    (old new : WireState) (store store_now : StoreState) (status : Status) where
  abbrev pub DoesTesting : Option Probed → Type 0
  DoesTesting (Some p) = DoesTest p trials trials_now old new store store_now status told seed p.trying.folder
  DoesTesting None =
      DoesRecording kept staged asked told seed children children_now old new store store_now status recording

  abbrev pub CompletesTesting : Option Probed → Type 0
  CompletesTesting (Some p) = CompletesTest p trials trials_now old new store store_now status told seed p.trying.folder
  CompletesTesting None =
      CompletesRecording kept staged asked told seed children children_now old new store store_now status recording

-- why a fault is answered
module _ (recording : Option Recording) (kept : Option Recorded) (staged : Option Staged) (asked : Option Asked)
    (faults faults_now : List ℕ → ℕ) (children children_now : ℕ → Child) (trials trials_now : ℕ → Trial)
    (old new : WireState) (store store_now : StoreState) (status : Status) where
  abbrev pub HasTestingCause : Option Probed → Type 0
  HasTestingCause (Some p) = HasTestCause p trials trials_now old new store store_now status faults faults_now p.trying.folder
  HasTestingCause None =
      HasRecordingCause kept staged asked faults faults_now children children_now old new store store_now status recording
