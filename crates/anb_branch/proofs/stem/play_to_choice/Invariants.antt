use Rattle.std.proofs.Common.{◌≡◌, ◌≤◌, length}
use Rattle.anb_base.specs.declared.TheConstants.{ARRIVAL}
use Rattle.anb_machine.specs.Machines.{left}
use Rattle.anb_session.specs.Faults.{IsQuiet}
use Rattle.anb_branch.specs.Stems.{AreBytes, AreShort, WentBy}
use Rattle.anb_branch.proofs.Stems.{Along}
use Rattle.anb_branch.proofs.stem.play_to_choice.Given as goal

abbrev pub invariant-loop-arrival : goal.invariant-loop-arrival
invariant-loop-arrival g l = record {
  room : length l.buffer.items ≡ ARRIVAL;
  few : length l.past.items ≤ l.receives;
  bytes : AreBytes l.past.items;
  short : AreShort l.past.items;
  along : Along l.receives (g.P.Playable.machine l.fn.played) (g.P.Playable.machine l.played) l.past.items (g.W.Wire.state l.fn.wire) (g.W.Wire.state l.wire);
  by : WentBy g.P.Playable.Follows l.fn.played l.played l.past.items (g.W.Wire.state l.fn.wire) (g.W.Wire.state l.wire);
  quiet : IsQuiet (g.W.Wire.state l.fn.wire) (g.W.Wire.state l.wire);
}

abbrev pub decreases-loop-arrival : goal.decreases-loop-arrival
decreases-loop-arrival g l = left (g.P.Playable.machine l.played)
