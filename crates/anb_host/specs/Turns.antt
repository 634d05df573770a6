-- What one turn of serving does.
use Rattle.std.specs.Prelude.{◌≡◌, ℕ, ◌<◌, ◌≤◌, ◌⊎◌, List, [], ◌∷◌, ◌++◌, length, Option, Result, Ok, Err, IfSome}
use Rattle.anb_base.specs.Moves.{Took, Put, PutPrefix, AtEnd, Stamped}
use Rattle.anb_base.specs.Wires.{WireState}
use Rattle.anb_frame.specs.Answers.{TookAt}
use Rattle.anb_host.specs.declared.event.HostEvent.{HostEvent}
use Rattle.anb_host.specs.declared.serving.HostEnd.{HostEnd}
use Rattle.anb_host.specs.declared.serving.HostEnd.TheVariants.{Ended, Truncated, BadKind, ReadFault, WriteFault, Spent, NoMemory}
use Rattle.anb_host.specs.HostFrames.{IsFrame, IsPart, out}
use Rattle.anb_host.specs.Hosts.{HostValue, plays_of, StandsFor}
use Rattle.anb_host.specs.Own.{answer}
use Rattle.anb_host.specs.Serving.{IsBegun}

-- what the bytes z are that were taken of a frame, where so much is left now
abbrev pub Says : List ℕ → Option (List ℕ) → Result HostEvent HostEnd → Type 0
Says z now (Ok e) = IsFrame z e
Says z now (Err Ended) = (z ≡ []) × AtEnd now
Says z now (Err (Truncated have need)) = AtEnd now × (length z ≡ have) × IsPart z need
Says z now (Err (BadKind kind)) = (z ≡ kind ∷ []) × (1 < kind)
Says z now (Err ReadFault) = IsBegun z
Says z now (Err NoMemory) = IsBegun z ⊎ ((e : HostEvent) × IsFrame z e)
Says z now (Err WriteFault) = ⊥
Says z now (Err (Spent n)) = ⊥

-- what was left and is left now, when each byte was taken until then and until now, and how many
-- bytes are written meanwhile
module _ (left now taken_at taken_at_now : Option (List ℕ)) (written : ℕ) where
  -- behind the bytes of a frame that were taken before
  abbrev pub ReadsOn : (begun : List ℕ) → Result HostEvent HostEnd → Type 0
  ReadsOn begun result =
      (z : List ℕ) × TookAt left now taken_at taken_at_now written z × Says (begun ++ z) now result

  -- so many bytes were taken and dropped, of len that were wanted
  abbrev pub Skips : (len n : ℕ) → Type 0
  Skips len n =
      (z : List ℕ) × TookAt left now taken_at taken_at_now written z
      × (length z ≡ n) × (n ≤ len) × (n < len → AtEnd now)

-- these bytes were taken, each when so much was written as before
abbrev pub TakesOf : WireState → WireState → List ℕ → Type 0
TakesOf s t z =
    Took s.left t.left z
    × IfSome s.written (λ written. Stamped s.taken_at t.taken_at (length written) (length z))

-- an event was taken and answered, and this is so of it then
pub record GoesOn (Then : List HostEvent → Type 0) (h h' : HostValue) (s t : WireState) : Type 0 where
  pub event : HostEvent
  pub taken : List ℕ
  pub is_frame : IsFrame taken event
  pub takes : TakesOf s t taken
  pub answers : (past : List HostEvent) → StandsFor h past
      → Put s.written t.written (out (answer (plays_of h) past event))
  pub stands : (past : List HostEvent) → StandsFor h past → StandsFor h' (past ++ event ∷ [])
  pub plays : plays_of h' ≡ plays_of h
  pub followed : Then (event ∷ [])

-- an event was taken, and a prefix of its answer written
pub record FailsIn (h : HostValue) (s t : WireState) : Type 0 where
  pub event : HostEvent
  pub taken : List ℕ
  pub is_frame : IsFrame taken event
  pub takes : TakesOf s t taken
  pub answers : (past : List HostEvent) → StandsFor h past
      → PutPrefix s.written t.written (out (answer (plays_of h) past event))

-- and the host stands for it
pub record FailsAnswering (Then : List HostEvent → Type 0) (h h' : HostValue) (s t : WireState) : Type 0 where
  pub fails : FailsIn h s t
  pub stands : (past : List HostEvent) → StandsFor h past → StandsFor h' (past ++ fails.event ∷ [])
  pub followed : Then (fails.event ∷ [])

-- no event was taken, and nothing written
abbrev pub Stays : WireState → WireState → HostEnd → Type 0
Stays s t end =
    (t.written ≡ s.written) × ((z : List ℕ) × TakesOf s t z × Says z t.left (Err end))

-- serving came to this end
abbrev pub EndsAt : (Then : List HostEvent → Type 0) → (h h' : HostValue) → WireState → WireState → HostEnd → Type 0
EndsAt Then h h' s t WriteFault = FailsAnswering Then h h' s t
EndsAt Then h h' s t NoMemory = Stays s t ReadFault ⊎ FailsIn h s t
EndsAt Then h h' s t end = (h' ≡ h) × Stays s t end × Then []
