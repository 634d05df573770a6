-- What is recorded of a role's play in the arm that is taken.
use Rattle.std.specs.Prelude.{◌≡◌, ℕ, List, [], ◌∷◌, Option, Some, slice_get}
use Rattle.std.specs.List.{AllByRecursion}
use Rattle.anb_base.specs.Bytes.{IsBytes}
use Rattle.anb_base.specs.Wires.{WireState}
use Rattle.anb_plays.specs.Plays.{Run, ends, waiting}
use Rattle.anb_plays.specs.Runs.{without_place}
use Rattle.anb_protocol.specs.Plays.{IsPlay}
use Rattle.anb_protocol.specs.Protocols.{ProtocolValue, role_number}
use Rattle.anb_code.specs.CodeValue.{CodeValue}
use Rattle.anb_machine.specs.ByteRuns.{run_bytes}
use Rattle.anb_machine.specs.Machines.{MachineValue, gives}
use Rattle.anb_session.specs.declared.PlayEnd.{PlayEnd}
use Rattle.anb_store.specs.Stores.{StoreState}
use Rattle.anb_transcript.specs.Replays.{arrivals_of}
use Rattle.anb_recording.specs.Following.{RecordsOn}
use Rattle.anb_recording.specs.Recordings.{IsRecorded}
use Rattle.anb_recording.specs.declared.recording.Kept.{Kept}
use Rattle.anb_choice.specs.Lawful.{BranchedValue}
use Rattle.anb_branch.specs.Stems.{CameBy, StandsBehind, no_halt}
use Rattle.anb_branch.specs.Taken.{place_taken}

-- what was recorded of a run to this end, but for the instruction of a stop
pub record RecordsTo (R : Run) (file : List ℕ) (old new : StoreState) (kept : Kept) (left : Option (List ℕ)) (end : PlayEnd) : Type 0 where
  pub stop : PlayEnd
  pub is : end ≡ no_halt stop
  pub recorded : IsRecorded R file old new kept left stop

-- what was recorded is of the run of the arm's code that is taken over the arrivals that were recorded
pub record RecordsTaken (b : BranchedValue) (role : List ℕ) (told : Option ℕ) (init : List (List ℕ)) (seed : List ℕ) (codes : List CodeValue)
    (file : List ℕ) (old new : StoreState) (kept : Kept) (left : Option (List ℕ)) (end : PlayEnd) : Type 0 where
  pub place : ℕ
  pub code : CodeValue
  pub at : slice_get codes place ≡ Some code
  pub records : RecordsTo (run_bytes code init seed 0) file old new kept left end
  pub taken : place_taken b role told (arrivals_of records.recorded.lines) ≡ place

-- the run of each of these codes is the role's play in the arm at its place
abbrev pub CodesPlay : BranchedValue → (role : List ℕ) → (init : List (List ℕ)) → (seed : List ℕ) → List CodeValue → Type 0
CodesPlay b role init seed codes = (place : ℕ) (code : CodeValue) → slice_get codes place ≡ Some code
    → (arm : ProtocolValue) × (slice_get b.arms place ≡ Some arm)
    × ((arrivals : List (List ℕ)) → AllByRecursion IsBytes arrivals
    → IsPlay arm (role_number arm.roles role) init seed 0 arrivals (without_place (run_bytes code init seed 0 arrivals)))

-- ---- for proofs alone

module _ (file : List ℕ) (old new : StoreState) (before after : Kept) where
  -- a machine goes on as another over these arrivals, and its lines were appended
  abbrev pub Lines : MachineValue → (used : List (List ℕ)) → MachineValue → Type 0
  Lines x used y = RecordsOn (Unit {0}) (gives x) (gives y) file old new before after used

  -- a machine that stands behind these arrivals of the run F goes on with this one, to this end
  pub record GoesOnAgain (F : Run) (past : List (List ℕ)) (b : List ℕ) (state : WireState) (end : PlayEnd) : Type 0 where
    pub first : MachineValue
    pub last : MachineValue
    pub sent : List (List ℕ)
    pub stands : StandsBehind F past sent first
    pub event : ℕ
    pub next : gives first [] ≡ ends (waiting event) []
    pub came : CameBy Lines first last last (b ∷ []) state end
