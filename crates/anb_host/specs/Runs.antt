-- Serving so far.
use Rattle.std.specs.Prelude.{◌≡◌, ℕ, ◌+◌, List, [], ◌++◌, length, replicate, IfSome}
use Rattle.anb_plays.specs.Plays.{Run}
use Rattle.anb_base.specs.Moves.{Took, Put}
use Rattle.anb_base.specs.Wires.{WireState}
use Rattle.anb_host.specs.declared.event.HostEvent.{HostEvent}
use Rattle.anb_host.specs.HostFrames.{Tail, End, HostFrames, FramesLeft, out}
use Rattle.anb_host.specs.Hosts.{HostValue, plays_of, StandsFor}
use Rattle.anb_host.specs.Own.{told}
use Rattle.anb_host.specs.Serving.{stamps}

-- the frames of these events were taken, and the bytes z, each when all events before were answered
abbrev pub TookFrames : (ℕ → Run) → (past events : List HostEvent)
    → WireState → WireState → List ℕ → Type 0
TookFrames plays past events old new z =
    ((frames : List ℕ) × Took old.left new.left (frames ++ z) × HostFrames frames events End)
    × IfSome old.written (λ written. Put old.taken_at new.taken_at
    (stamps plays past (length written) events
    ++ replicate (length z) (length written + length (out (told plays past events)))))

-- these events are done, and the others are left
pub record Done (plays : ℕ → Run) (h : HostValue) (old new : WireState) (k : ℕ)
    (past events : List HostEvent) (tail : Tail) : Type 0 where
  pub front : List HostEvent
  pub rest : List HostEvent
  pub whole : events ≡ front ++ rest
  pub many : length front ≡ k
  pub stands : StandsFor h (past ++ front)
  pub left : FramesLeft new.left rest tail
  pub took : TookFrames plays past front old new []
  pub answered : Put old.written new.written (out (told plays past front))

-- k frames were handled, and this is so of their events
pub record Handled (Then : List HostEvent → Type 0) (h h' : HostValue) (old new : WireState) (k : ℕ) : Type 0 where
  pub plays : plays_of h' ≡ plays_of h
  pub some : List HostEvent
  pub followed : Then some
  pub each : (past events : List HostEvent) (tail : Tail) → StandsFor h past
      → FramesLeft old.left events tail → Done (plays_of h) h' old new k past events tail
  pub same : (past events : List HostEvent) (tail : Tail) (stands : StandsFor h past) (left : FramesLeft old.left events tail)
      → (each past events tail stands left).front ≡ some
