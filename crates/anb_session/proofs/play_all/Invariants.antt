use Rattle.std.proofs.Common.{◌≡◌, length}
use Rattle.anb_base.specs.declared.TheConstants.{ARRIVAL}
use Rattle.anb_machine.specs.Machines.{gives, left}
use Rattle.anb_session.specs.Faults.{IsQuiet}
use Rattle.anb_session.specs.Turns.{Passes, WentOn}
use Rattle.anb_session.proofs.play_all.Given as goal

abbrev pub invariant-loop-end : goal.invariant-loop-end
invariant-loop-end g l =
    let machine = g.P.Playable.machine in
    let state = g.W.Wire.state in
    record {
      room : length l.buffer.items ≡ ARRIVAL;
      passes : Passes (gives (machine l.fn.played)) (gives (machine l.played)) (state l.fn.wire) (state l.wire);
      went_on : WentOn g.P.Playable.Follows l.fn.played l.played (state l.fn.wire) (state l.wire);
      quiet : IsQuiet (state l.fn.wire) (state l.wire);
    }

abbrev pub decreases-loop-end : goal.decreases-loop-end
decreases-loop-end g l = left (g.P.Playable.machine l.played)
