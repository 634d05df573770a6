-- How a wire's faults stand to the end of a session over it.
use Rattle.std.specs.Prelude.{◌≡◌, ℕ, ◌<◌, ◌≤◌}
use Rattle.anb_base.specs.Moves.{Rose}
use Rattle.anb_base.specs.Wires.{WireState}
use Rattle.anb_session.specs.declared.PlayEnd.{PlayEnd}
use Rattle.anb_session.specs.declared.PlayEnd.TheVariants.{ReadFault, WriteFault}

-- a fault is answered where its count rose, and nowhere else; the count never falls
pub record IsAnswered (before now : ℕ) (Answered : Type 0) : Type 0 where
  pub rose : Answered → Rose before now
  pub told : before < now → Answered
  pub never_falls : before ≤ now

-- the end answers the faults of both sides so, and no place is reached
pub record TellsEnd (old new : WireState) (end : PlayEnd) : Type 0 where
  pub reading : IsAnswered old.read_faults new.read_faults (end ≡ ReadFault)
  pub writing : IsAnswered old.write_faults new.write_faults (end ≡ WriteFault)
  pub reached : new.reached ≡ old.reached
  pub reach_faults : new.reach_faults ≡ old.reach_faults

-- no fault occurred, and no place is reached
pub record IsQuiet (old new : WireState) : Type 0 where
  pub reads : new.read_faults ≡ old.read_faults
  pub writes : new.write_faults ≡ old.write_faults
  pub reached : new.reached ≡ old.reached
  pub reach_faults : new.reach_faults ≡ old.reach_faults
