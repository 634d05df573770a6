-- What goes on on a wire: reaching a place, writing, and a whole command.
use Rattle.std.specs.Prelude.{◌≡◌, ◌≤◌, Bool, Some}
use Rattle.anb_base.specs.Moves.{Rose, Put}
use Rattle.anb_base.specs.Places.{line_of}
use Rattle.anb_base.specs.Wires.{WireState}
use Rattle.anb_base.specs.declared.place.Place.{Place}
use Rattle.anb_status.specs.declared.status.Status.{Status}
use Rattle.anb_command.specs.Causes.{HasWireCause}
use Rattle.anb_command.specs.Reaches.{Reaches}
use Rattle.anb_command.specs.Reported.{TellsWireFaults}
use Rattle.anb_status.specs.Statuses.{phase_of}
use Rattle.anb_command.specs.Touches.{Touches}

pub record HasReached (place : Place) (old new : WireState) : Type 0 where
  pub same : new ≡ record old { reached = new.reached }
  pub told : Put old.reached new.reached (line_of place)

pub record DidNotReach (old new : WireState) : Type 0 where
  pub same : new ≡ record old { reach_faults = new.reach_faults }
  pub cause : Rose old.reach_faults new.reach_faults
  pub never_falls : old.reach_faults ≤ new.reach_faults

-- what is written, and its count, are all that changed
pub record OnlyWrites (old new : WireState) : Type 0 where
  pub same : new ≡ record old { written = new.written; write_faults = new.write_faults }
  pub never_falls : old.write_faults ≤ new.write_faults

-- no place was reached, and no count falls
pub record StaysReached (old new : WireState) : Type 0 where
  pub reached : new.reached ≡ old.reached
  pub reach_faults : new.reach_faults ≡ old.reach_faults
  pub reads : old.read_faults ≤ new.read_faults
  pub writes : old.write_faults ≤ new.write_faults

-- what holds of each command at a place that ends so, whatever it does there
pub record OverWire (place : Place) (reading : Bool) (status : Status) (old new : WireState) : Type 0 where
  pub cause : HasWireCause (Some place) old new status
  pub told : TellsWireFaults old new status
  pub reached : Reaches (Some place) (phase_of status) old.reached new.reached
  pub touches : Touches reading (phase_of status) old new
