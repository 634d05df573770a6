-- for proofs alone: what comes next of a session, and where it stands then.
use Rattle.std.specs.Prelude.{◌≡◌, ℕ, List, [], ◌∷◌, ◌++◌, Option, Some, None, true}
use Rattle.anb_plays.specs.Plays.{stopped, done}
use Rattle.anb_code.specs.CodeValue.{CodeValue}
use Rattle.anb_machine.specs.Machines.{waits}
use Rattle.anb_machine.specs.declared.turn.Turn.{Turn}
use Rattle.anb_machine.specs.declared.turn.Turn.TheVariants.{Message, Wants, Done, Stopped, NoMemory}
use Rattle.anb_park.specs.Lives.{LiveValue, IsParked}
use Rattle.anb_park.specs.Records.{Parked}
use Rattle.anb_c.specs.declared.session.Session.{Session}
use Rattle.anb_c.specs.declared.telling.Stage.{Stage}
use Rattle.anb_c.specs.declared.telling.Stage.TheVariants as stage
use Rattle.anb_c.specs.Sessions.{IsAt, IsElsewhere, IsFailed, Ends, Waits}

abbrev pub LiveWaits : Option LiveValue → Type 0
LiveWaits None = ⊥
LiveWaits (Some live) = waits live.machine ≡ true

-- no message is pending, and it wants an arrival
abbrev pub IsWaiting : Session → Type 0
IsWaiting s = (s.pending ≡ None) × LiveWaits s.live

abbrev pub IsParkedIn : CodeValue → Parked → Option LiveValue → Type 0
IsParkedIn code p None = ⊥
IsParkedIn code p (Some live) = IsParked code p live

-- a message comes next of the run; or it ends so, and nothing was lost
abbrev pub GoesOn : CodeValue → Parked → List (List ℕ) → Session → Turn → Type 0
GoesOn code p sent s (Message b) = (s.pending ≡ None) × IsAt code p (sent ++ b ∷ []) (Some s)
GoesOn code p sent s (Wants e) = IsAt code p sent (Some s) × Waits code p sent e × IsParkedIn code p s.live
GoesOn code p sent s Done = IsAt code p sent (Some s) × Ends code p sent done
GoesOn code p sent s (Stopped halt) = IsAt code p sent (Some s) × Ends code p sent (stopped halt.event halt.at)
GoesOn code p sent s NoMemory = IsFailed (Some s)

-- it waits, and can be parked; or the run goes on otherwise, and nothing was lost
abbrev pub StandsSo : CodeValue → Parked → List (List ℕ) → Session → Stage → Type 0
StandsSo code p sent s (stage.Waits e) = IsAt code p sent (Some s) × Waits code p sent e × IsParkedIn code p s.live
StandsSo code p sent s stage.Elsewhere = IsElsewhere code p sent × IsAt code p sent (Some s)
StandsSo code p sent s stage.NoMemory = IsFailed (Some s)
