-- What is done where child programs may be started: `stage`, and every other command as without them.
use Rattle.std.specs.Prelude.{◌≡◌, ℕ, Bool, false, List, Option, Some, None}
use Rattle.anb_base.specs.Wires.{WireState}
use Rattle.anb_base.specs.declared.place.Place.{Place}
use Rattle.anb_base.specs.declared.place.Place.TheVariants.{Stdio}
use Rattle.anb_stage.specs.Children.{Child}
use Rattle.anb_status.specs.declared.status.Status.{Status}
use Rattle.anb_command.specs.Causes.{HasCause, NoneRose}
use Rattle.anb_command.specs.Fetches.{Files}
use Rattle.anb_command.specs.Phases.{phase_in}
use Rattle.anb_status.specs.Statuses.{Phase, phase_of}
use Rattle.anb_words.specs.Words.{Asked, asked_of, files_of, is_reading, place_of}
use Rattle.anb_stage_commands.specs.StageCommand.{CompletesStage, DoesStage, HasStageCause, NoChildRose}
use Rattle.anb_stage_commands.specs.Words.{Staged, staged_files, staged_of}
use Rattle.anb_run.specs.Commands.{Completes, Does}

-- the words ask for something, a stage or another command
abbrev pub IsAsked : Option Staged → Option Asked → Type 0
IsAsked (Some s) asked = Unit {0}
IsAsked None (Some asked) = Unit {0}
IsAsked None None = ⊥

-- The files, the place, and whether the input is read: a stage reads its narration, and behind it a values
-- file where its words name one, and no input.
abbrev pub all_files : Option Staged → Option Asked → List (List ℕ)
all_files (Some s) asked = staged_files s
all_files None asked = files_of asked

abbrev pub all_places : Option Staged → Option Asked → Option Place
all_places (Some s) asked = Some Stdio
all_places None asked = place_of asked

abbrev pub all_reading : Option Staged → Option Asked → Bool
all_reading (Some s) asked = false
all_reading None asked = is_reading asked

-- when a status comes
abbrev pub all_phase : Option Staged → Option Asked → Status → Phase
all_phase (Some s) asked status = phase_of status
all_phase None asked status = phase_in asked status

-- by the files, the seed, the children and the wire
module _ (asked : Option Asked) (told : Option Files) (seed : Option (List ℕ)) (children children_now : ℕ → Child) (old new : WireState) (status : Status) where
  abbrev pub DoesAny : Option Staged → Type 0
  DoesAny (Some s) = DoesStage s children children_now old.written new.written told status
  DoesAny None = Does asked told seed old new status

  abbrev pub CompletesAny : Option Staged → Type 0
  CompletesAny (Some s) = NoChildRose children children_now → CompletesStage s children told status
  CompletesAny None = Completes asked told seed old new status

-- why a fault is answered
module _ (asked : Option Asked) (faults faults_now : List ℕ → ℕ) (children children_now : ℕ → Child) (old new : WireState) (status : Status) where
  abbrev pub HasAnyCause : Option Staged → Type 0
  HasAnyCause (Some s) = HasStageCause s.limit (staged_files s) faults faults_now children children_now old new status
  HasAnyCause None = HasCause (files_of asked) (place_of asked) faults faults_now old new status
