use Rattle.std.proofs.Common.{[], ◌++◌}
use Rattle.anb_machine.specs.Machines.{gives}
use Rattle.anb_partner.proofs.Going.{went_nowhere, went_further, over_behind}
use Rattle.anb_partner.proofs.talking.go_to_end.Goals as goal

pub loop-stop-init : goal.loop-stop-init
loop-stop-init g c = record {
  goes_on = ([], went_nowhere (gives c.args.machine.now) c.args.lines.now.items (g.W.Wire.state c.args.child.now));
  few = c.requires.few;
  room = c.requires.room;
}

pub loop-stop-preserved : goal.loop-stop-preserved
loop-stop-preserved g c =
    let old = c.loop-stop.invariant.goes_on in
    let new = c.in_default.ensures.goes_on in
    record {
      goes_on = (
        old.0 ++ new.0,
        went_further (gives c.args.machine.now) (gives c.loop-stop.machine) (gives c.turn.new.machine) c.args.lines.now.items c.loop-stop.lines.items c.turn.new.lines.items
            (g.W.Wire.state c.args.child.now) (g.W.Wire.state c.loop-stop.child) (g.W.Wire.state c.turn.new.child) old.0 new.0 old.1 new.1,
      );
      few = c.turn.ensures.few;
      room = c.turn.ensures.room;
    }

pub returns-in-Err-clause-over : goal.returns-in-Err-clause-over
returns-in-Err-clause-over g c = λ corrupt.
    let old = c.loop-stop.invariant.goes_on in
    over_behind (gives c.args.machine.now) (gives c.loop-stop.machine) c.args.lines.now.items c.loop-stop.lines.items c.turn.new.lines.items
    (g.W.Wire.state c.args.child.now) (g.W.Wire.state c.loop-stop.child) (g.W.Wire.state c.turn.new.child) old.0 corrupt c.in-Err.stop old.1 c.in-Err.ensures.no_line (c.in-Err.ensures.over corrupt)
