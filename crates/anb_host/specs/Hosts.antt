-- What a host keeps, and which events it stands for.
use Rattle.std.specs.Prelude.{◌≡◌, ℕ, ◌≤◌, List, [], ◌∷◌, ◌++◌, length, Bool, true, false, IfSome, slice_get}
use Rattle.anb_plays.specs.Plays.{Run, SendsFirst}
use Rattle.anb_code.specs.CodeValue.{CodeValue}
use Rattle.anb_machine.specs.ByteRuns.{run_bytes}
use Rattle.anb_machine.specs.Machines.{gives}
use Rattle.anb_host.specs.declared.session.Session.{Session}
use Rattle.anb_host.specs.declared.session.Session.TheVariants.{Unstarted, Running, Over}
use Rattle.anb_base.specs.declared.TheConstants.{ARRIVAL, WIDE}
use Rattle.anb_host.specs.declared.event.HostEvent.{HostEvent}
use Rattle.anb_host.specs.declared.event.HostEvent.TheVariants.{Arrive}
use Rattle.anb_host.specs.declared.event.Notice.{Notice}
use Rattle.anb_host.specs.declared.event.Notice.TheVariants.{Message, Refused}
use Rattle.anb_host.specs.Own.{is_over, has_start, accepted, events_of}

-- the code, the initial values and the seed of all sessions, what is kept of each, and whether
-- memory was wanting
pub record HostValue : Type 0 where
  pub code : CodeValue
  pub init : List (List ℕ)
  pub seed : List ℕ
  pub sessions : List Session
  pub failed : Bool

-- the play of each session: the run of the code, with the session's own draws
abbrev pub plays_of : HostValue → ℕ → Run
plays_of h s arrivals = run_bytes h.code h.init h.seed s arrivals

-- what is kept of a session with this play stands for its events: nothing before its start, then a
-- machine that still gives what comes over further arrivals, and nothing again when it is over
abbrev pub Stands : Run → List HostEvent → Session → Type 0
Stands play events Unstarted = has_start events ≡ false
Stands play events (Running machine) =
    (has_start events ≡ true) × (is_over (play (accepted play events)).end ≡ false)
    × ((more : List (List ℕ)) → SendsFirst (play (accepted play events ++ more))
    (play (accepted play events)).sent (gives machine more))
Stands play events Over =
    (has_start events ≡ true) × (is_over (play (accepted play events)).end ≡ true)

-- a host stands for a list of events where each session stands for its own of them
abbrev pub StandsFor : HostValue → List HostEvent → Type 0
StandsFor h events =
    (s : ℕ) → IfSome (slice_get h.sessions s) (Stands (plays_of h s) (events_of s events))

-- an event was refused
abbrev pub IsRefusal : List Notice → Type 0
IsRefusal (Refused s why ∷ []) = Unit {0}
IsRefusal _ = ⊥

-- an arrival has at most so many bytes
abbrev pub Fits : HostEvent → Type 0
Fits (Arrive s b) = length b ≤ ARRIVAL
Fits _ = Unit {0}

-- a message has at most 67,108,864
abbrev pub IsNarrow : Notice → Type 0
IsNarrow (Message s b) = length b ≤ WIDE
IsNarrow _ = Unit {0}
