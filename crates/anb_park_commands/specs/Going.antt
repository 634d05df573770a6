-- What comes of a session under way over a wire, where a code runs it.
use Rattle.std.specs.Prelude.{◌≡◌, ◌↔◌, ◌⊎◌, ℕ, ◌+◌, ◌≤◌, ◌<◌, ◌^◌, List, [], ◌++◌, length, take, Option, Some, None}
use Rattle.std.specs.List.{AllByRecursion}
use Rattle.anb_base.specs.Bytes.{IsBytes}
use Rattle.anb_base.specs.Moves.{Put, PutPrefix}
use Rattle.anb_base.specs.Wires.{WireState}
use Rattle.anb_base.specs.declared.TheConstants.{ARRIVAL}
use Rattle.anb_frame.specs.Frames.{frame, frames}
use Rattle.anb_frame.specs.Cuts.{Tail, CutLeft}
use Rattle.anb_code.specs.CodeValue.{CodeValue}
use Rattle.anb_park.specs.Lives.{LiveValue, Stands, started}
use Rattle.anb_park.specs.Records.{HasSizes, IsWaiting, Parked, after, count_takes, play_of, record_of}
use Rattle.anb_park.specs.declared.resuming.ParkNo.{ParkNo}
use Rattle.anb_park.specs.declared.resuming.ParkNo.TheVariants as cause
use Rattle.anb_plays.specs.Plays.{Played}
use Rattle.anb_plays.specs.Runs.{without_place}
use Rattle.anb_machine.specs.Machines.{gives}
use Rattle.anb_protocol.specs.Protocols.{ProtocolValue}
use Rattle.anb_session.specs.Sessions.{Reads}
use Rattle.anb_session.specs.declared.PlayEnd.{PlayEnd}
use Rattle.anb_session.specs.declared.PlayEnd.TheVariants.{Done, Stopped, Waiting, Truncated, TooLarge}
use Rattle.anb_session.specs.declared.PlayEnd.TheVariants as faults
use Rattle.anb_store.specs.Stores.{HasFailed, StoreState, replaced}
use Rattle.anb_syntax.specs.Grammar.{Narration}
use Rattle.anb_command.specs.declared.limits.TheConstants.{RECORD_LIMIT}
use Rattle.anb_status.specs.declared.status.Status.{Status}
use Rattle.anb_status.specs.declared.status.Status.TheVariants.{Unreached, ReadFault, WriteFault, NoMemory}
use Rattle.anb_status.specs.declared.status.Status.TheVariants as ended
use Rattle.anb_command.specs.Fetches.{Files}
use Rattle.anb_command.specs.Files.{FileIs, ProtocolIs}
use Rattle.anb_command.specs.Prepared.{RunsTo}
use Rattle.anb_command.specs.Roles.{Part, PartOf}
use Rattle.anb_command.specs.Steps.{Answer, refused, given, InTurn}
use Rattle.anb_park_commands.specs.declared.ended.RecordWay.{RecordWay}
use Rattle.anb_park_commands.specs.declared.ended.RecordWay.TheVariants.{ByWire, ToFile}
use Rattle.anb_park_commands.specs.Keys.{KeyIs}
use Rattle.anb_park_commands.specs.Parking.{by_wire, due, status_at}
use Rattle.anb_park_commands.specs.Records.{RecordIs}
use Rattle.anb_park_commands.specs.Sessions.{IsPlayOf, RoleSession, count_known}

-- what a session under way gives, as a play tells it
abbrev pub plays_on : LiveValue → List (List ℕ) → Played (List ℕ)
plays_on live more = without_place (gives live.machine more)

-- the record of a session under a key, once these arrived too
abbrev pub saved : (key : List ℕ) → Parked → List (List ℕ) → List ℕ
saved key s more = record_of key (after s more)

-- what comes of a run over an input with this cut, where this is the record and goes this way
module _ (way : RecordWay) (R : List (List ℕ) → Played (List ℕ)) (record_after : List (List ℕ) → List ℕ) where
  abbrev pub ParksTo : List (List ℕ) → Tail → (left left_now written written_now : Option (List ℕ)) → Status → Type 0
  ParksTo arrivals tail left left_now written written_now (Unreached at) =
      RunsTo R arrivals tail left left_now written written_now (Unreached at)
  ParksTo arrivals tail left left_now written written_now ReadFault =
      RunsTo R arrivals tail left left_now written written_now ReadFault
  ParksTo arrivals tail left left_now written written_now WriteFault =
      PutPrefix written written_now (frames (due way (R arrivals) tail (record_after arrivals)))
  ParksTo arrivals tail left left_now written written_now NoMemory =
      (k : ℕ) × Put written written_now (frames (take k (due way (R arrivals) tail (record_after arrivals))))
  ParksTo arrivals tail left left_now written written_now result =
      (result ≡ status_at (R arrivals).end tail)
      × Put written written_now (frames (due way (R arrivals) tail (record_after arrivals)))
      × Reads (R arrivals).end arrivals (R arrivals).left tail left left_now

  -- and over each input that the wire may have
  abbrev pub ParksOn : (old new : WireState) → Status → Type 0
  ParksOn old new result =
      (arrivals : List (List ℕ)) (tail : Tail) → CutLeft ARRIVAL old.left arrivals tail
      → ParksTo arrivals tail old.left new.left old.written new.written result

-- ---- a role's code

-- the initial values and the arrivals are strings of bytes
pub record HaveBytes (s : Parked) : Type 0 where
  pub init : AllByRecursion IsBytes s.init
  pub arrivals : AllByRecursion IsBytes s.arrivals

-- a code that takes what the role knows, and plays each session of the role. It takes no more values
-- than a protocol has terms, and uses no more arrivals than it has actions
pub record RunsRole (p : ProtocolValue) (role : ℕ) (code : CodeValue) : Type 0 where
  pub takes : count_takes code ≡ count_known p role
  pub known : count_takes code ≤ 65536
  pub few : (s : Parked) → IsWaiting code s → length s.arrivals ≤ 256
  pub plays : (s : Parked) → length s.init ≡ count_takes code → HaveBytes s
      → (play : Played (List ℕ)) → IsPlayOf p role s play ↔ (play ≡ without_place (play_of code s))

-- there is this session, and the code plays it
pub record HasSession (Prepares : Answer RoleSession → Type 0) (code : CodeValue) (s : Parked) (key : List ℕ)
    : Type 0 where
  pub protocol : ProtocolValue
  pub role : ℕ
  pub asks : Prepares (given (record { protocol = protocol; role = role; parked = s; key = key }))
  pub runs : RunsRole protocol role code
  pub bytes : HaveBytes s

-- ---- a new session

abbrev pub begun : (id seed : List ℕ) → (initial : List (List ℕ)) → Parked
begun id seed initial = started id initial seed 0

-- ---- what is written of a session that waits

-- the initial values are so few bytes, and so few arrivals are there wherever it waits
pub record IsSmall (code : CodeValue) (s : Parked) : Type 0 where
  pub initial : length (frames s.init) ≤ RECORD_LIMIT
  pub few : (more : List (List ℕ)) → IsWaiting code (after s more)
      → length (s.arrivals ++ more) ≤ 256

-- a session under way that stands for such a one
abbrev pub StandsSmall : LiveValue → Type 0
StandsSmall live =
    (code : CodeValue) × (s : Parked) × (sent : List (List ℕ))
    × Stands code s sent live × IsSmall code s

-- the record of a session under way has a frame
abbrev pub FitsFrame : LiveValue → Type 0
FitsFrame live = length live.body + 32 < 2 ^ 32

-- where it is parked, the session waits, with all that arrived
abbrev pub IsKept : CodeValue → Parked → (left : Option (List ℕ)) → Status → Type 0
IsKept code s left result =
    (e : ℕ) (arrivals : List (List ℕ)) (tail : Tail) → result ≡ ended.Parked e → CutLeft ARRIVAL left arrivals tail
    → HasSizes (count_takes code) (after s arrivals) × IsWaiting code (after s arrivals)

-- writing a record in its frame, or handing it out
abbrev pub Writes : RecordWay → (record_bytes : List ℕ) → (event : ℕ) → (old new : WireState) → Status → Type 0
Writes way record_bytes event old new (ended.Parked e) = (e ≡ event) × Put old.written new.written (by_wire way record_bytes)
Writes way record_bytes event old new WriteFault = PutPrefix old.written new.written (by_wire way record_bytes)
Writes way record_bytes event old new NoMemory = new.written ≡ old.written
Writes way record_bytes event old new status = ⊥

-- a record that goes to a file is handed out, and none that goes over the wire
abbrev pub Hands : RecordWay → (IsRecord : List ℕ → Type 0) → (handed : Option (List ℕ)) → Type 0
Hands ByWire IsRecord handed = handed ≡ None
Hands ToFile IsRecord handed = (record_bytes : List ℕ) × IsRecord record_bytes × (handed ≡ Some record_bytes)

-- the role is parked and such a record goes its way, or nothing is handed out
abbrev pub HandsOut : RecordWay → (IsRecord : List ℕ → Type 0) → Status → (handed : Option (List ℕ)) → Type 0
HandsOut way IsRecord (ended.Parked e) handed = Hands way IsRecord handed
HandsOut way IsRecord status handed = handed ≡ None

-- the record of a session under way over what is left of the input, whose state this is now
abbrev pub IsSaved : LiveValue → (key : List ℕ) → (left : Option (List ℕ)) → (record_bytes : List ℕ) → Type 0
IsSaved live key left record_bytes =
    (code : CodeValue) (s : Parked) (sent : List (List ℕ)) → Stands code s sent live
    → (arrivals : List (List ℕ)) (tail : Tail) → CutLeft ARRIVAL left arrivals tail → record_bytes ≡ saved key s arrivals

-- What comes of keeping a record in a file, where one was handed out and the session ended so: it is
-- kept, the file couldn't be written, or memory was wanting.
abbrev pub StoresOr : (file record_bytes : List ℕ) → (old new : StoreState) → (fault : Option Status) → Type 0
StoresOr file record_bytes old new fault =
    ((fault ≡ None) × (new ≡ replaced old file record_bytes))
    ⊎ ((fault ≡ Some (ended.Unwritten file)) × HasFailed old new)
    ⊎ ((fault ≡ Some NoMemory) × (new ≡ old))

abbrev pub Stores : (file : List ℕ) → (handed : Option (List ℕ)) → (end : Status) → (old new : StoreState) → Status → Type 0
Stores file None end old new result = (result ≡ end) × (new ≡ old)
Stores file (Some record_bytes) end old new result =
    ((result ≡ end) × (new ≡ replaced old file record_bytes))
    ⊎ ((result ≡ ended.Unwritten file) × HasFailed old new)
    ⊎ ((result ≡ NoMemory) × (new ≡ old))

-- the status of a session that isn't parked
abbrev pub ended_so : PlayEnd → Status
ended_so Done = ended.Done
ended_so (Stopped halt) = ended.Stopped (record { event = halt.event; at = 0 })
ended_so (Waiting event) = ended.Waiting event
ended_so (Truncated have need) = ended.Truncated have need
ended_so (TooLarge len) = ended.TooLarge len
ended_so faults.ReadFault = ended.ReadFault
ended_so faults.WriteFault = ended.WriteFault
ended_so faults.NoMemory = ended.NoMemory

-- the status of a record that isn't gone on from
abbrev pub status_of : ParkNo → Status
status_of cause.NoMemory = NoMemory
status_of why = ended.BadRecord why

-- ---- the role

-- a role of a narration
abbrev pub PartOfNarration : Narration → (name : List ℕ) → Answer Part → Type 0
PartOfNarration n name = InTurn (ProtocolIs n) (λ p. PartOf p name)

-- a session that goes on from a record in a file
abbrev pub IsAwake : Files → ProtocolValue → (role : ℕ) → (id saved key : List ℕ) → Parked → (secret : List ℕ) → Type 0
IsAwake files p role id saved key s secret =
    (bytes : List ℕ) × FileIs files saved RECORD_LIMIT (given bytes) × KeyIs files key (given secret)
    × RecordIs p role id secret bytes (given s)

-- what refuses a record in a file
abbrev pub RefusesAwake : Files → ProtocolValue → (role : ℕ) → (id saved key : List ℕ) → Status → Type 0
RefusesAwake files p role id saved key status =
    InTurn (FileIs files saved RECORD_LIMIT) (λ bytes. InTurn (KeyIs files key) (λ secret.
    RecordIs p role id secret bytes)) (refused status)
