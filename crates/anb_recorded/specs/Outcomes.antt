-- What comes of a command that makes a recording: its status, and what becomes of the files.
use Rattle.std.specs.Prelude.{◌≡◌, ◌≢◌, ◌⊎◌, ℕ, true, List, Option, Some, if◌then◌else◌}
use Rattle.anb_base.specs.Moves.{Rose}
use Rattle.anb_base.specs.Wires.{WireState}
use Rattle.anb_base.specs.declared.place.Place.{Place}
use Rattle.anb_recording.specs.Journals.{IsAbsent, IsThere, OthersStay}
use Rattle.anb_store.specs.Stores.{StoreState}
use Rattle.anb_status.specs.Statuses.{Phase, at_any_time, before_reach, is_fault, phase_of}
use Rattle.anb_status.specs.declared.status.Status.{Status}
use Rattle.anb_status.specs.declared.status.Status.TheVariants.{Unwritten, NoMemory}
use Rattle.anb_command.specs.Causes.{HasCause}
use Rattle.anb_command.specs.Reaches.{Reaches}
use Rattle.anb_command.specs.Touches.{Touches}
use Rattle.anb_recorded.specs.declared.ended.Missing.{Missing}
use Rattle.anb_recorded.specs.declared.ended.Missing.TheVariants as missing

-- The status that is told, where the play ended so by itself and this is missing of its recording. What
-- can't be written stands in the place of an end that is no fault of its own.
abbrev pub told_as : (end : Status) → Missing → Status
told_as end missing.Nothing = end
told_as end (missing.There name) = Unwritten name
told_as end (missing.Unwritten name) = if is_fault end then end else Unwritten name
told_as end missing.NoMemory = if is_fault end then end else NoMemory

-- a status may come when the play's may; that of a file that can't be written comes before the wire is
-- touched or behind the play
abbrev pub recorded_phase : Status → Phase
recorded_phase (Unwritten name) = at_any_time
recorded_phase s = phase_of s

-- none of these files is there
abbrev pub AreAbsent : (IsMine : List ℕ → Type 0) → StoreState → Type 0
AreAbsent IsMine store = (name : List ℕ) → IsMine name → IsAbsent store name

-- the files of a recording are these
module _ (IsMine : List ℕ → Type 0) (store store_now : StoreState) where
  -- no fault of the store occurred, and each other file is as it was, unless the play itself ended for want of memory
  abbrev pub IsCalm : (end : Status) → Type 0
  IsCalm end = end ≢ NoMemory → (store_now.faults ≡ store.faults) × OthersStay IsMine store store_now

  -- Why something is missing. A file that is there already is left, and so is the wire. One that couldn't
  -- be written is counted by the store, and where nothing else is missing than for want of memory nothing was
  -- counted: so a fault of the store is told. No file but those of the recording is touched.
  abbrev pub IsMissing : (old new : WireState) → (end : Status) → Missing → Type 0
  IsMissing old new end missing.Nothing = IsCalm end
  IsMissing old new end missing.NoMemory = IsCalm end
  IsMissing old new end (missing.Unwritten name) =
      end ≢ NoMemory → IsMine name × Rose store.faults store_now.faults × OthersStay IsMine store store_now
  IsMissing old new end (missing.There name) =
      IsMine name × IsThere store name × (end ≡ NoMemory) × (new ≡ old) × (store_now ≡ store)

  -- no recording is taken over: the wire is as it was, or none of the files was there, or the store failed
  abbrev pub TakesNoneOver : (old new : WireState) → Type 0
  TakesNoneOver old new = (new ≡ old) ⊎ (AreAbsent IsMine store ⊎ Rose store.faults store_now.faults)

  -- why a fault is answered
  abbrev pub HasRecordCause : (names : List (List ℕ)) → Option Place → (faults faults_now : List ℕ → ℕ) → (old new : WireState) → Status → Type 0
  HasRecordCause names place faults faults_now old new (Unwritten name) = IsMine name × (IsThere store name ⊎ Rose store.faults store_now.faults)
  HasRecordCause names place faults faults_now old new s = HasCause names place faults faults_now old new s

-- ---- a command that is recorded

module _ (old new : WireState) (IsMine : List ℕ → Type 0) (store store_now : StoreState) (status : Status) where
  -- one of the files is there already: this is told, and nothing else is done
  abbrev pub IsTaken : Type 0
  IsTaken =
      (name : List ℕ) × (status ≡ Unwritten name) × IsMine name × IsThere store name × (new ≡ old) × (store_now ≡ store)

  -- by an end, what the command does without a folder, and what is recorded then
  module _ (Does Has : Status → Type 0) where
    -- Over the wire it goes on as without a folder, to an end of its own. What is told is that end, unless
    -- something is missing of the recording. Where nothing is, and the wire was tried, it is all there.
    pub record DoesInFolder : Type 0 where
      pub end : Status
      pub missed : Missing
      pub does : Does end
      pub told_so : status ≡ told_as end missed
      pub why_missed : IsMissing IsMine store store_now old new end missed
      pub fresh : TakesNoneOver IsMine store store_now old new
      -- a refusal leaves the store
      pub early : phase_of end ≡ before_reach → store_now ≡ store
      -- the place is reached and the wire touched as that end says, whatever is told
      pub place : Place
      pub reached : Reaches (Some place) (phase_of end) old.reached new.reached
      pub touches : Touches true (phase_of end) old new
      pub recorded : (phase_of end ≡ before_reach → ⊥) → end ≢ NoMemory → missed ≡ missing.Nothing → Has end

    -- it ends and completes as without a folder, or memory was wanting, and the recording is all there
    pub record IsWhole (Completes : Status → Type 0) : Type 0 where
      pub ends : Does status ⊎ (status ≡ NoMemory)
      pub completes : Completes status
      pub recorded : (phase_of status ≡ before_reach → ⊥) → status ≢ NoMemory → Has status

    -- where nothing failed, the store neither
    abbrev pub CompletesInFolder : (Completes : Status → Type 0) → Type 0
    CompletesInFolder Completes = IsTaken ⊎ IsWhole Completes
