-- What comes of a session over the frames of a wire, which is parked where it waits: the status,
-- what is written, what is left, and what is kept in a store where the record goes to a file.
use Rattle.std.specs.Prelude.{◌≡◌, ℕ, ◌⊎◌, Bool, true, false, if◌then◌else◌, List, [], ◌∷◌, ◌++◌, take, Option, Some}
use Rattle.anb_base.specs.Bytes.{IsBytes}
use Rattle.anb_base.specs.Moves.{Put, Rose}
use Rattle.anb_base.specs.Wires.{WireState}
use Rattle.anb_base.specs.declared.TheConstants.{ARRIVAL}
use Rattle.anb_frame.specs.Frames.{frame, frames}
use Rattle.anb_frame.specs.Cuts.{Tail, End, Cut}
use Rattle.anb_base.specs.declared.place.Place.{Place}
use Rattle.anb_park.specs.Records.{after, record_of}
use Rattle.anb_plays.specs.Plays as plays
use Rattle.anb_plays.specs.Plays.{Played}
use Rattle.anb_status.specs.declared.status.Status.{Status}
use Rattle.anb_status.specs.declared.status.Status.TheVariants.{Done, Parked, WriteFault, Unwritten, NoMemory}
use Rattle.anb_store.specs.Stores.{HasFailed, StoreState, replaced}
use Rattle.anb_command.specs.Causes.{HasCause}
use Rattle.anb_command.specs.Fetches.{Files, IfTold}
use Rattle.anb_command.specs.Outcomes as playing
use Rattle.anb_command.specs.Outcomes.{IsInTime, IsRefused, LeavesAt}
use Rattle.anb_command.specs.Refusing.{IsRefusing}
use Rattle.anb_status.specs.Statuses.{is_fault}
use Rattle.anb_command.specs.Steps.{Answer, given}
use Rattle.anb_park_commands.specs.declared.ended.RecordWay.{RecordWay}
use Rattle.anb_park_commands.specs.declared.ended.RecordWay.TheVariants.{ByWire, ToFile}
use Rattle.anb_park_commands.specs.Records.{RecordIs}
use Rattle.anb_park_commands.specs.Sessions.{RoleSession}

-- a play that ended so, before this tail of the input, is parked: it waits, and the input ended at
-- the border of a frame
abbrev pub is_parked : plays.End → Tail → Bool
is_parked (plays.waiting e) End = true
is_parked end tail = false

-- the status of a play that ended so, as `play` has it, with Parked in place of Waiting
abbrev pub status_at : plays.End → Tail → Status
status_at (plays.waiting e) End = Parked e
status_at end tail = playing.status_at end tail

-- what is due over the wire, each in a frame: the messages, and then the record where it is parked
-- and the record goes there
abbrev pub due : RecordWay → Played (List ℕ) → Tail → (saved : List ℕ) → List (List ℕ)
due ByWire p tail saved = p.sent ++ (if is_parked p.end tail then saved ∷ [] else [])
due ToFile p tail saved = p.sent

-- what goes over the wire of a record: its frame, or nothing
abbrev pub by_wire : RecordWay → (record_bytes : List ℕ) → List ℕ
by_wire ByWire record_bytes = frame record_bytes
by_wire ToFile record_bytes = []

-- the record of a session once these arrived too
abbrev pub record_after : RoleSession → List (List ℕ) → List ℕ
record_after s more = record_of s.key (after s.parked more)

-- what comes of a session over further arrivals
module _ (way : RecordWay) (Comes : RoleSession → List (List ℕ) → Played (List ℕ) → Type 0) where
  -- a play to its end: what is due is written, and what it used of the input is read
  pub record IsPlayed (s : RoleSession) (left : List ℕ) (arrivals : List (List ℕ)) (tail : Tail)
      (status : Status) (out rest : List ℕ) : Type 0 where
    pub play : Played (List ℕ)
    pub plays : Comes s arrivals play
    pub status_is : status ≡ status_at play.end tail
    pub writes : out ≡ frames (due way play tail (record_after s arrivals))
    pub leaves : LeavesAt play.end left arrivals play.left tail rest

  module _ (Prepares : Answer RoleSession → Type 0) (left : List ℕ) (arrivals : List (List ℕ))
      (tail : Tail) where
    -- the status, what is written, and what is left of an input that is cut into these arrivals and
    -- this tail, where no fault comes
    abbrev pub Outcome : Status → (out rest : List ℕ) → Type 0
    Outcome status out rest =
        IsRefused Prepares left status out rest
        ⊎ ((s : RoleSession) × Prepares (given s) × IsPlayed s left arrivals tail status out rest)

    -- what is written where a fault comes, or memory is wanting, and what is left then: as of a
    -- play, but that a record counts as due where it would be at the end
    abbrev pub CutShort : Status → (out : List ℕ) → (left_now : Option (List ℕ)) → Type 0
    CutShort WriteFault out left_now =
        (s : RoleSession) × Prepares (given s) × ((p : Played (List ℕ)) × Comes s arrivals p
        × ((n : ℕ) × (out ≡ take n (frames (due way p tail (record_after s arrivals))))))
    CutShort NoMemory out left_now =
        ((out ≡ []) × (left_now ≡ Some left))
        ⊎ ((s : RoleSession) × Prepares (given s) × ((p : Played (List ℕ)) × Comes s arrivals p
        × ((k : ℕ) × (out ≡ frames (take k (due way p tail (record_after s arrivals)))))))
    -- all messages, where the play is parked over the whole input
    CutShort (Unwritten file) out left_now =
        (s : RoleSession) × Prepares (given s) × ((p : Played (List ℕ)) × Comes s arrivals p
        × (is_parked p.end tail ≡ true) × (out ≡ frames p.sent)) × (left_now ≡ Some [])
    CutShort status out left_now = playing.CutShort Comes Prepares left arrivals status out left_now

    -- the outcome, in both directions. What is written may be untold
    pub record IsOutcome (result : Status) (left_now written written_now : Option (List ℕ))
        : Type 0 where
      -- the answer is an outcome
      pub is : is_fault result ≡ false → (out : List ℕ) × (rest : List ℕ) × Outcome result out rest
          × Put written written_now out × (left_now ≡ Some rest)
      -- and each outcome is the answer
      pub only : is_fault result ≡ false → (status : Status) (out rest : List ℕ)
          → Outcome status out rest
          → (result ≡ status) × Put written written_now out × (left_now ≡ Some rest)
      pub cut_short : is_fault result ≡ true
          → (out : List ℕ) × CutShort result out left_now × Put written written_now out

  module _ (Prepares : Files → Answer RoleSession → Type 0) (told : Option Files)
      (old new : WireState) (status : Status) where
    -- What a command does that has such a session. What it refuses is exact wherever the files are
    -- told. Where the input is told too, the outcome is that over each cut that it has.
    pub record ParksOver (Reads : Files → List ℕ → Type 0) : Type 0 where
      pub refuses : IfTold told (λ files. IsRefusing (Prepares files) (Reads files) status)
      pub outcome : IfTold told (λ files. IfTold old.left (λ left.
          (arrivals : List (List ℕ)) (tail : Tail) → IsBytes left → Cut ARRIVAL left arrivals tail
          → IsOutcome (Prepares files) left arrivals tail status new.left old.written new.written))
      -- a record that is written is one that goes on, under the session's identity and its key
      pub accepted : IfTold told (λ files. IfTold old.left (λ left.
          (e : ℕ) (arrivals : List (List ℕ)) (tail : Tail) (s : RoleSession) → status ≡ Parked e
          → IsBytes left → Cut ARRIVAL left arrivals tail → Prepares files (given s)
          → RecordIs s.protocol s.role s.parked.id s.key (record_after s arrivals)
          (given (after s.parked arrivals))))
      -- whatever the status
      pub in_time : IfTold told (λ files. IsInTime Comes (Prepares files) old new)

    -- where nothing failed and the play over the input's arrivals is done, so is the command, or
    -- memory was wanting
    abbrev pub CompletesOver : Type 0
    CompletesOver =
        IfTold told (λ files. IfTold old.left (λ left.
        (s : RoleSession) (arrivals : List (List ℕ)) (tail : Tail) (p : Played (List ℕ))
        → IsBytes left → Cut ARRIVAL left arrivals tail → Prepares files (given s)
        → Comes s arrivals p → p.end ≡ plays.done → (status ≡ Done) ⊎ (status ≡ NoMemory)))

-- ---- records in files

-- What a store holds then, where records go to this file: where the role is parked it holds such a
-- record there, and each other file is as it was. A file that can't be written leaves all as they
-- were. No other status does anything to it.
module _ (file : List ℕ) (IsRecord : List ℕ → Type 0) (old new : StoreState) where
  abbrev pub KeepsIn : Status → Type 0
  KeepsIn (Parked e) = (record_bytes : List ℕ) × IsRecord record_bytes × (new ≡ replaced old file record_bytes)
  KeepsIn (Unwritten name) = (name ≡ file) × HasFailed old new
  KeepsIn status = new ≡ old

-- wherever the files and the input are told, these bytes are the record of what is asked for, once
-- the input's arrivals came too
abbrev pub IsRecordOf : (Files → Answer RoleSession → Type 0) → Option Files → (left : Option (List ℕ))
    → (record_bytes : List ℕ) → Type 0
IsRecordOf Prepares told left record_bytes = IfTold told (λ files. IfTold left (λ input.
    (arrivals : List (List ℕ)) (tail : Tail) (s : RoleSession) → IsBytes input
    → Cut ARRIVAL input arrivals tail → Prepares files (given s)
    → record_bytes ≡ record_after s arrivals))

-- why a fault is answered: that of the file only where a count of the store rose
module _ (file : List ℕ) (names : List (List ℕ)) (place : Option Place) (faults faults_now : List ℕ → ℕ)
    (old new : WireState) (store store_now : StoreState) where
  abbrev pub HasParkCause : Status → Type 0
  HasParkCause (Unwritten name) = (name ≡ file) × Rose store.faults store_now.faults
  HasParkCause status = HasCause names place faults faults_now old new status
