-- The frames of a host: events that come in on one stream of bytes, and notices that go out on one.
use Rattle.std.specs.Prelude.{◌≡◌, ℕ, ◌+◌, ◌<◌, ◌≤◌, ◌^◌, ◌⊎◌, List, [], ◌∷◌, ◌++◌, length, Option, Some, None}
use Rattle.std.specs.List.{flat_map}
use Rattle.anb_base.specs.Bytes.{IsBytes}
use Rattle.anb_base.specs.declared.TheConstants.{ARRIVAL}
use Rattle.anb_frame.specs.Frames.{frame, length_bytes}
use Rattle.anb_host.specs.declared.event.HostEvent.{HostEvent}
use Rattle.anb_host.specs.declared.event.HostEvent.TheVariants.{Start, Arrive, Oversize}
use Rattle.anb_host.specs.declared.event.Notice.{Notice}
use Rattle.anb_host.specs.declared.event.Notice.TheVariants.{Message, Stopped, Finished, Refused}
use Rattle.anb_host.specs.declared.event.Cause.{Cause}
use Rattle.anb_host.specs.declared.event.Cause.TheVariants as cause

-- a number in four bytes, as a frame has its length
abbrev pub number : ℕ → List ℕ
number n = length_bytes n

-- z is the frame of an event. What is longer than an arrival may be is told by its length alone
abbrev pub IsFrame : List ℕ → HostEvent → Type 0
IsFrame z (Start s) = (s < 2 ^ 32) × (z ≡ 0 ∷ number s)
IsFrame z (Arrive s b) = (s < 2 ^ 32) × (length b ≤ ARRIVAL) × (z ≡ 1 ∷ number s ++ frame b)
IsFrame z (Oversize s len) =
    (body : List ℕ) × (s < 2 ^ 32) × (ARRIVAL < len) × (len < 2 ^ 32) × (length body ≡ len)
    × (z ≡ 1 ∷ number s ++ number len ++ body)

-- z is the beginning of a frame, which has so many bytes at the least
abbrev pub IsPart : List ℕ → ℕ → Type 0
IsPart z need =
    ((y : List ℕ) × (z ≡ 0 ∷ y) × (length y < 4) × (need ≡ 5))
    ⊎ ((y : List ℕ) × (z ≡ 1 ∷ y) × (length y < 8) × (need ≡ 9))
    ⊎ ((s len : ℕ) × (body : List ℕ) × (z ≡ 1 ∷ number s ++ number len ++ body)
    × (s < 2 ^ 32) × (len < 2 ^ 32) × (length body < len) × (need ≡ 9 + len))

-- how an input ends after its last whole frame
pub data Tail : Type 0 where
  -- there
  End : Tail
  -- within a frame, of which this many bytes are there, and this many are needed
  Part : (have need : ℕ) → Tail
  -- with a byte that is no kind of frame, and with anything behind it
  Bad : (kind : ℕ) → Tail

-- z is what such a tail stands for
abbrev pub Ends : List ℕ → Tail → Type 0
Ends z End = z ≡ []
Ends z (Part have need) = (length z ≡ have) × IsPart z need
Ends z (Bad kind) = (rest : List ℕ) × (z ≡ kind ∷ rest) × (1 < kind)

-- x is the frames of these events, and then the tail
abbrev pub HostFrames : List ℕ → List HostEvent → Tail → Type 0
HostFrames x [] tail = Ends x tail
HostFrames x (e ∷ events) tail =
    (z rest : List ℕ) × (x ≡ z ++ rest) × IsFrame z e × HostFrames rest events tail

-- each input of bytes is such
abbrev pub HasFrames : Type 0
HasFrames = (x : List ℕ) → IsBytes x
    → (events : List HostEvent) × (tail : Tail) × HostFrames x events tail

-- and in one way
abbrev pub HasOneReading : Type 0
HasOneReading = (x : List ℕ) (events others : List HostEvent) (tail other : Tail)
    → HostFrames x events tail → HostFrames x others other
    → (events ≡ others) × (tail ≡ other)

-- the bytes that are left are told, and are these
abbrev pub FramesLeft : Option (List ℕ) → List HostEvent → Tail → Type 0
FramesLeft None events tail = ⊥
FramesLeft (Some left) events tail = HostFrames left events tail

-- ---- what goes out

abbrev pub cause_number : Cause → ℕ
cause_number cause.Range = 1
cause_number cause.Started = 2
cause_number cause.NotStarted = 3
cause_number cause.Ended = 4
cause_number cause.Oversize = 5

abbrev pub notice_frame : Notice → List ℕ
notice_frame (Message s b) = 0 ∷ number s ++ frame b
notice_frame (Stopped s e) = 1 ∷ number s ++ number e
notice_frame (Finished s) = 2 ∷ number s
notice_frame (Refused s why) = 3 ∷ number s ++ cause_number why ∷ []

abbrev pub out : List Notice → List ℕ
out notices = flat_map notice_frame notices
