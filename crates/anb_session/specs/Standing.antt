-- Where what is played stands, at an end and before an arrival.
use Rattle.std.specs.Prelude.{◌≡◌, ℕ, List, [], ◌++◌}
use Rattle.anb_base.specs.Wires.{WireState}
use Rattle.anb_base.specs.declared.TheConstants.{ARRIVAL}
use Rattle.anb_frame.specs.Cuts.{Tail, CutLeft}
use Rattle.anb_machine.specs.Machines.{MachineValue, gives}
use Rattle.anb_plays.specs.Plays.{ends, done, stopped, waiting}
use Rattle.anb_session.specs.declared.PlayEnd.{PlayEnd}
use Rattle.anb_session.specs.declared.PlayEnd.TheVariants.{Done, Stopped, Waiting}

-- an arrival is what comes next in a machine
abbrev pub IsNext : MachineValue → Type 0
IsNext machine = (event : ℕ) × (gives machine [] ≡ ends (waiting event) [])

-- an end that comes of waiting for the arrival of this event
abbrev pub ComesOf : (event : ℕ) → PlayEnd → Type 0
ComesOf event Done = ⊥
ComesOf event (Stopped halt) = ⊥
ComesOf event (Waiting e) = e ≡ event
ComesOf event end = Unit {0}

-- where it is done or stopped, a machine gives no more than that, and where it waits for an arrival that
-- is what comes next
abbrev pub StandsAt : MachineValue → PlayEnd → Type 0
StandsAt machine Done = gives machine [] ≡ ends done []
StandsAt machine (Stopped halt) = gives machine [] ≡ ends (stopped halt.event halt.at) []
StandsAt machine (Waiting e) = gives machine [] ≡ ends (waiting e) []
StandsAt machine end = Unit {0}

-- what is played went on by these arrivals, which are the first of those that were left, and stands at
-- this end
pub record CameTo {A : Type 0} (Follows : A → List (List ℕ) → A → Type 0) (x y : A)
    (machine : MachineValue) (old : WireState) (end : PlayEnd) : Type 0 where
  pub used : List (List ℕ)
  pub follows : Follows x used y
  pub first : (arrivals : List (List ℕ)) (tail : Tail) → CutLeft ARRIVAL old.left arrivals tail
      → (rest : List (List ℕ)) × (arrivals ≡ used ++ rest)
  pub stands : StandsAt machine end
