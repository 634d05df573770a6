-- What serving a host over a wire reads and writes.
use Rattle.std.specs.Prelude.{◌≡◌, ℕ, ◌+◌, ◌<◌, ◌≤◌, ◌⊎◌, List, [], ◌∷◌, ◌++◌, length, take, replicate, IfSome}
use Rattle.anb_plays.specs.Plays.{Run}
use Rattle.anb_base.specs.Moves.{Took, Put, PutPrefix}
use Rattle.anb_base.specs.Wires.{WireState}
use Rattle.anb_host.specs.declared.event.HostEvent.{HostEvent}
use Rattle.anb_host.specs.declared.event.HostEvent.TheVariants.{Start, Arrive, Oversize}
use Rattle.anb_host.specs.declared.serving.HostEnd.{HostEnd}
use Rattle.anb_host.specs.declared.serving.HostEnd.TheVariants.{Ended, Truncated, BadKind, ReadFault, WriteFault, Spent, NoMemory}
use Rattle.anb_host.specs.HostFrames.{Tail, End, Part, Bad, Ends, FramesLeft, IsPart, HostFrames, out}
use Rattle.anb_host.specs.Hosts.{HostValue, StandsFor, plays_of}
use Rattle.anb_host.specs.Own.{answer, told}

-- how many bytes an event's frame has
abbrev pub size_of : HostEvent → ℕ
size_of (Start s) = 5
size_of (Arrive s b) = 9 + length b
size_of (Oversize s len) = 9 + len

-- nothing, or the beginning of a frame
abbrev pub IsBegun : List ℕ → Type 0
IsBegun z = (z ≡ []) ⊎ ((need : ℕ) × IsPart z need)

-- what may be taken behind the last frame: nothing, the beginning of one, or the one byte that is no
-- kind of frame
abbrev pub IsBehind : List ℕ → Type 0
IsBehind z = IsBegun z ⊎ ((kind : ℕ) × (z ≡ kind ∷ []) × (1 < kind))

module _ (plays : ℕ → Run) where
  -- for each byte of the frames of these events, how many bytes are written when it is taken: all
  -- that the events before are answered, after so many at first
  abbrev pub stamps : (past : List HostEvent) → (written : ℕ) → List HostEvent → List ℕ
  stamps past written [] = []
  stamps past written (x ∷ events) =
      replicate (size_of x) written
      ++ stamps (past ++ x ∷ []) (written + length (out (answer plays past x))) events

  -- after some events before, these and a tail come in; at most so many are handled
  module _ (past events : List HostEvent) (tail : Tail) (budget : ℕ) (old new : WireState) where
    -- the frames of the first k events were taken, and the bytes z, each when all events before
    -- were answered
    abbrev pub Reads : (k : ℕ) → (z : List ℕ) → Type 0
    Reads k z =
        ((frames : List ℕ)
        × Took old.left new.left (frames ++ z) × HostFrames frames (take k events) End)
        × IfSome old.written (λ written. Put old.taken_at new.taken_at
        (stamps past (length written) (take k events)
        ++ replicate (length z) (length written + length (out (told plays past (take k events))))))

    -- these are the events of which all was taken
    abbrev pub AreTaken : (some : List HostEvent) → Type 0
    AreTaken some =
        (k : ℕ) × (z : List ℕ) × (k ≤ budget) × IsBehind z × Reads k z × (some ≡ take k events)

    -- all that the first k events are answered is written
    abbrev pub Answers : (k : ℕ) → Type 0
    Answers k = Put old.written new.written (out (told plays past (take k events)))

    -- a prefix of it is
    abbrev pub AnswersInPart : (k : ℕ) → Type 0
    AnswersInPart k = PutPrefix old.written new.written (out (told plays past (take k events)))

    -- the host stands then for those of which all was taken
    abbrev pub StandsAfter : HostValue → Type 0
    StandsAfter h =
        (k : ℕ) × (z : List ℕ) × (k ≤ budget) × IsBehind z × Reads k z
        × StandsFor h (past ++ take k events)

    -- the input came to this end before the budget was spent, and z was taken of it
    abbrev pub Concludes : Tail → (z : List ℕ) → Type 0
    Concludes due z =
        (tail ≡ due) × (length events < budget)
        × Reads (length events) z × Answers (length events)

    -- what is read and written with each end. Before a fault of reading, fewer events than the
    -- budget were taken, and answered. After a fault of writing, or where memory was wanted, a
    -- prefix of the answers is written
    abbrev pub Serves : HostEnd → Type 0
    Serves Ended = Concludes End []
    Serves (Truncated have need) =
        (z : List ℕ) × Ends z (Part have need) × Concludes (Part have need) z
    Serves (BadKind kind) = Concludes (Bad kind) (kind ∷ [])
    Serves (Spent n) =
        (n ≡ budget) × (budget ≤ length events) × Reads budget [] × Answers budget
    Serves ReadFault =
        (k : ℕ) × (z : List ℕ) × (k < budget) × IsBegun z × Reads k z × Answers k
    Serves WriteFault = (k : ℕ) × (k ≤ budget) × Reads k [] × AnswersInPart k
    Serves NoMemory =
        (k : ℕ) × (z : List ℕ) × (k ≤ budget) × IsBegun z × Reads k z × AnswersInPart k

-- This is so of some events, which are, wherever the input is told, those of which all was taken.
pub record FollowsAfter (h : HostValue) (budget : ℕ) (old new : WireState) (Then : List HostEvent → Type 0) : Type 0 where
  pub some : List HostEvent
  pub followed : Then some
  pub are : (past events : List HostEvent) (tail : Tail) → StandsFor h past → FramesLeft old.left events tail
      → AreTaken (plays_of h) past events tail budget old new some
