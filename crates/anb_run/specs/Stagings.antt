-- What is done where a stage may be recorded: `stage` with a folder, and every other command as without.
use Rattle.std.specs.Prelude.{ℕ, Bool, false, List, Option, Some, None}
use Rattle.anb_base.specs.Wires.{WireState}
use Rattle.anb_base.specs.declared.place.Place.{Place}
use Rattle.anb_base.specs.declared.place.Place.TheVariants.{Stdio}
use Rattle.anb_stage.specs.Children.{Child}
use Rattle.anb_store.specs.Stores.{StoreState}
use Rattle.anb_partner.specs.Trials.{Trial}
use Rattle.anb_status.specs.declared.status.Status.{Status}
use Rattle.anb_status.specs.Statuses.{Phase}
use Rattle.anb_command.specs.Causes.{DidNotRise}
use Rattle.anb_command.specs.Fetches.{Files}
use Rattle.anb_words.specs.Words.{Asked}
use Rattle.anb_park_commands.specs.Words.{Recorded}
use Rattle.anb_recorded.specs.Outcomes.{recorded_phase}
use Rattle.anb_record_commands.specs.Words.{Recording}
use Rattle.anb_stage_commands.specs.StageCommand.{NoChildRose}
use Rattle.anb_stage_commands.specs.StageInto.{CompletesStageInto, DoesStageInto, HasStageIntoCause}
use Rattle.anb_stage_commands.specs.Words.{Staged, StagedInto, staged_files}
use Rattle.anb_probe_commands.specs.Words.{Probed}
use Rattle.anb_session_commands.specs.Words.{Following}
use Rattle.anb_run.specs.Sessions.{CompletesFollowing, DoesFollowing, HasFollowingCause, IsAskedFollowing, following_files, following_phase, following_places, following_reading}

-- with the words of a record, and without
module _ (following : Option Following) (probed : Option Probed) (recording : Option Recording) (kept : Option Recorded) (staged : Option Staged) (asked : Option Asked) where
  -- the words ask for something
  abbrev pub IsAskedStaging : Option StagedInto → Type 0
  IsAskedStaging (Some s) = Unit {0}
  IsAskedStaging None = IsAskedFollowing probed recording kept staged asked following

  -- the files, the place, and whether the input is read
  abbrev pub staging_files : Option StagedInto → List (List ℕ)
  staging_files (Some s) = staged_files s.staged
  staging_files None = following_files probed recording kept staged asked following

  abbrev pub staging_places : Option StagedInto → Option Place
  staging_places (Some s) = Some Stdio
  staging_places None = following_places probed recording kept staged asked following

  abbrev pub staging_reading : Option StagedInto → Bool
  staging_reading (Some s) = false
  staging_reading None = following_reading probed recording kept staged asked following

  -- when a status comes
  abbrev pub staging_phase : Status → Option StagedInto → Phase
  staging_phase status (Some s) = recorded_phase status
  staging_phase status None = following_phase probed recording kept staged asked status following

  -- by the files, the seed, the children, the trials, the wire and the store
  module _ (told : Option Files) (seed : Option (List ℕ)) (children children_now : ℕ → Child) (trials trials_now : ℕ → Trial)
      (old new : WireState) (store store_now : StoreState) (status : Status) where
    abbrev pub DoesStaging : Option StagedInto → Type 0
    DoesStaging (Some s) =
        DoesStageInto s.staged s.folder children children_now old.written new.written store store_now status told
    DoesStaging None =
        DoesFollowing probed recording kept staged asked told seed children children_now trials trials_now old new store store_now status following

    abbrev pub CompletesStaging : Option StagedInto → Type 0
    CompletesStaging (Some s) =
        NoChildRose children children_now → DidNotRise store.faults store_now.faults
        → CompletesStageInto s.staged s.folder children children_now old.written new.written store store_now status told
    CompletesStaging None =
        CompletesFollowing probed recording kept staged asked told seed children children_now trials trials_now old new store store_now status following

  -- why a fault is answered
  module _ (faults faults_now : List ℕ → ℕ) (children children_now : ℕ → Child) (trials trials_now : ℕ → Trial)
      (old new : WireState) (store store_now : StoreState) (status : Status) where
    abbrev pub HasStagingCause : Option StagedInto → Type 0
    HasStagingCause (Some s) =
        HasStageIntoCause s.staged s.folder store store_now (staged_files s.staged) faults faults_now children children_now old new status
    HasStagingCause None =
        HasFollowingCause probed recording kept staged asked faults faults_now children children_now trials trials_now old new store store_now status following
