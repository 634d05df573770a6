-- What is done where the session of a transcript may be said: `replay` and `trace` of it, and every other
-- command as without.
use Rattle.std.specs.Prelude.{ℕ, Bool, false, List, Option, Some, None}
use Rattle.anb_base.specs.Wires.{WireState}
use Rattle.anb_base.specs.declared.place.Place.{Place}
use Rattle.anb_base.specs.declared.place.Place.TheVariants.{Stdio}
use Rattle.anb_stage.specs.Children.{Child}
use Rattle.anb_store.specs.Stores.{StoreState}
use Rattle.anb_partner.specs.Trials.{Trial}
use Rattle.anb_status.specs.declared.status.Status.{Status}
use Rattle.anb_status.specs.Statuses.{Phase, phase_of}
use Rattle.anb_command.specs.Causes.{HasCause}
use Rattle.anb_command.specs.Fetches.{Files}
use Rattle.anb_words.specs.Words.{Asked, files_of}
use Rattle.anb_park_commands.specs.Words.{Recorded}
use Rattle.anb_record_commands.specs.Words.{Recording}
use Rattle.anb_stage_commands.specs.Words.{Staged}
use Rattle.anb_probe_commands.specs.Words.{Probed}
use Rattle.anb_session_commands.specs.SessionCommand.{CompletesInSession, DoesInSession}
use Rattle.anb_session_commands.specs.Words.{Following, without_session}
use Rattle.anb_run.specs.Programs.{CompletesTesting, DoesTesting, HasTestingCause, IsAskedTesting, testing_files, testing_phase, testing_places, testing_reading}

-- with the words of a session, and without
module _ (probed : Option Probed) (recording : Option Recording) (kept : Option Recorded) (staged : Option Staged) (asked : Option Asked) where
  -- the words ask for something
  abbrev pub IsAskedFollowing : Option Following → Type 0
  IsAskedFollowing (Some f) = Unit {0}
  IsAskedFollowing None = IsAskedTesting probed recording kept staged asked

  -- the files, the place, and whether the input is read
  abbrev pub following_files : Option Following → List (List ℕ)
  following_files (Some f) = files_of (Some (without_session f))
  following_files None = testing_files probed recording kept staged asked

  abbrev pub following_places : Option Following → Option Place
  following_places (Some f) = Some Stdio
  following_places None = testing_places probed recording kept staged asked

  abbrev pub following_reading : Option Following → Bool
  following_reading (Some f) = false
  following_reading None = testing_reading probed recording kept staged asked

  -- when a status comes
  abbrev pub following_phase : Status → Option Following → Phase
  following_phase status (Some f) = phase_of status
  following_phase status None = testing_phase probed recording kept staged asked status

  -- by the files, the seed, the children, the trials, the wire and the store
  module _ (told : Option Files) (seed : Option (List ℕ)) (children children_now : ℕ → Child) (trials trials_now : ℕ → Trial)
      (old new : WireState) (store store_now : StoreState) (status : Status) where
    abbrev pub DoesFollowing : Option Following → Type 0
    DoesFollowing (Some f) = DoesInSession told seed old new status f
    DoesFollowing None =
        DoesTesting recording kept staged asked told seed children children_now trials trials_now old new store store_now status probed

    abbrev pub CompletesFollowing : Option Following → Type 0
    CompletesFollowing (Some f) = CompletesInSession told seed old new status f
    CompletesFollowing None =
        CompletesTesting recording kept staged asked told seed children children_now trials trials_now old new store store_now status probed

  -- why a fault is answered
  module _ (faults faults_now : List ℕ → ℕ) (children children_now : ℕ → Child) (trials trials_now : ℕ → Trial)
      (old new : WireState) (store store_now : StoreState) (status : Status) where
    abbrev pub HasFollowingCause : Option Following → Type 0
    HasFollowingCause (Some f) = HasCause (files_of (Some (without_session f))) (Some Stdio) faults faults_now old new status
    HasFollowingCause None =
        HasTestingCause recording kept staged asked faults faults_now children children_now trials trials_now old new store store_now status probed
