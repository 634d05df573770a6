-- What a command leaves of a wire that it doesn't read, or that it hasn't reached.
use Rattle.std.specs.Prelude.{◌≡◌, ◌<◌, ◌≤◌, Bool, false}
use Rattle.anb_base.specs.Wires.{WireState}
use Rattle.anb_status.specs.Statuses.{Phase, before_reach, at_reach}

-- by whether the command reads input, and by when its status comes
pub record Touches (reading : Bool) (phase : Phase) (old new : WireState) : Type 0 where
  -- before its place is reached the wire is as it was; an attempt to reach it counts alone
  pub before : phase ≡ before_reach → new ≡ old
  pub unreached : phase ≡ at_reach → new ≡ record old { reach_faults = new.reach_faults }
  -- an attempt that failed is told, so nothing goes before it and nothing comes behind
  pub missed : old.reach_faults < new.reach_faults → phase ≡ at_reach
  -- a command that reads no input leaves it, and its count
  pub unread : reading ≡ false → new.left ≡ old.left
  pub untaken : reading ≡ false → new.taken_at ≡ old.taken_at
  pub unread_faults : reading ≡ false → new.read_faults ≡ old.read_faults
  -- no count falls
  pub reads : old.read_faults ≤ new.read_faults
  pub writes : old.write_faults ≤ new.write_faults
  pub reaches : old.reach_faults ≤ new.reach_faults
