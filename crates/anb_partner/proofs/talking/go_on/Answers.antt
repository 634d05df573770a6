use Rattle.std.proofs.Common.{arith, ap, length}
use Rattle.anb_machine.specs.Machines.{gives}
use Rattle.anb_partner.proofs.Going.{nowhere, one_further, over_behind, grown}
use Rattle.anb_partner.proofs.talking.go_on.Goals as goal

pub loop-init : goal.loop-init
loop-init g c = record {
  goes_on = nowhere (gives c.args.machine.now) c.args.lines.now.items (g.W.Wire.state c.args.child.now);
  few = c.requires.few;
  room = c.requires.room;
}

pub loop-preserved : goal.loop-preserved
loop-preserved g c = record {
  goes_on = one_further (gives c.args.machine.now) (gives c.loop.machine) (gives c.turn.new.machine) c.args.lines.now.items c.loop.lines.items c.turn.new.lines.items
      (g.W.Wire.state c.args.child.now) (g.W.Wire.state c.loop.child) (g.W.Wire.state c.turn.new.child) c.loop.counter c.loop.invariant.goes_on c.in_default.ensures.goes_on;
  few = c.turn.ensures.few;
  room = c.turn.ensures.room;
}

pub returns-in-Err-clause-over : goal.returns-in-Err-clause-over
returns-in-Err-clause-over g c = λ corrupt.
    let old = c.loop.invariant.goes_on in
    over_behind (gives c.args.machine.now) (gives c.loop.machine) c.args.lines.now.items c.loop.lines.items c.turn.new.lines.items
    (g.W.Wire.state c.args.child.now) (g.W.Wire.state c.loop.child) (g.W.Wire.state c.turn.new.child) old.0 corrupt c.in-Err.stop old.1 c.in-Err.ensures.no_line (c.in-Err.ensures.over corrupt)

pub returns-in-Err-clause-most : goal.returns-in-Err-clause-most
returns-in-Err-clause-most g c =
    let here = grown c.loop.counter _ _ _ _ _ _ c.loop.invariant.goes_on in
    omega (arith, here, ap length c.in-Err.ensures.no_line, c.loop-test.true)
