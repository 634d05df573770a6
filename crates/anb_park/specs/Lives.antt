-- What a session under way stands for.
use Rattle.std.specs.Prelude.{◌≡◌, ℕ, List, [], ◌∷◌, ◌++◌, true, Option}
use Rattle.anb_base.specs.declared.TheConstants.{ARRIVAL}
use Rattle.anb_frame.specs.Cuts.{Tail, CutLeft}
use Rattle.anb_plays.specs.Plays.{SendsFirst}
use Rattle.anb_code.specs.CodeValue.{CodeValue}
use Rattle.anb_machine.specs.Machines.{MachineValue, gives, waits, turn_of}
use Rattle.anb_machine.specs.declared.turn.Turn.{Turn}
use Rattle.anb_machine.specs.declared.turn.Turn.TheVariants.{Message, Wants}
use Rattle.anb_park.specs.Records.{Parked, body_of, after, count_takes, HasSizes, play_of, IsWaiting}

-- the machine, and what its record would hold
pub record LiveValue : Type 0 where
  pub machine : MachineValue
  pub body : List ℕ

-- it stands for a session whose first messages, these, were handed out: what it still gives is the
-- rest of the session's play, whatever else arrives
pub record Stands (code : CodeValue) (p : Parked) (sent : List (List ℕ)) (live : LiveValue)
    : Type 0 where
  pub sizes : HasSizes (count_takes code) p
  pub body : live.body ≡ body_of p
  pub comes : (more : List (List ℕ)) → SendsFirst (play_of code (after p more)) sent (gives live.machine more)

-- it can be parked as this session, which waits: its messages so far were handed out, nothing was
-- handed in since, and the next turn is that it wants an arrival
pub record IsParked (code : CodeValue) (p : Parked) (live : LiveValue) : Type 0 where
  pub stands : Stands code p (play_of code p).sent live
  pub waiting : IsWaiting code p
  pub waits : waits live.machine ≡ true
  pub next : (e : ℕ) × (turn_of (gives live.machine []) ≡ Wants e)

-- the session can be parked once some more arrived: all that was left, where that is told
pub record WaitsAgain (code : CodeValue) (p : Parked) (left : Option (List ℕ)) (live : LiveValue)
    : Type 0 where
  pub more : List (List ℕ)
  pub parked : IsParked code (after p more) live
  pub all : (arrivals : List (List ℕ)) (tail : Tail) → CutLeft ARRIVAL left arrivals tail
      → arrivals ≡ more

-- a session before its first arrival
abbrev pub started :
    (id : List ℕ) → (init : List (List ℕ)) → (seed : List ℕ) → (session : ℕ) → Parked
started id init seed session =
    record { id = id; seed = seed; session = session; init = init; arrivals = [] }

-- the messages that were handed out, after a turn
abbrev pub sent_after : List (List ℕ) → Turn → List (List ℕ)
sent_after sent (Message b) = sent ++ b ∷ []
sent_after sent turn = sent
