use Rattle.std.proofs.Common.{arith}
use Rattle.anb_machine.proofs.Lean.{over_pushed}
use Rattle.anb_machine.proofs.registers.initial_registers.Goals as goal

pub loop-r-preserved : goal.loop-r-preserved
loop-r-preserved c = record {
  values = rw c.in_ok-push.ensures.items (over_pushed c.args.last_uses.now c.args.init.now c.loop-r.table.items c.loop-r.r c.index-init-r.result c.in_ok-initial_register.field-0 c.loop-r-test.true c.index-init-r.is c.in_ok-initial_register.ensures c.loop-r.invariant.values);
  room = omega (arith, c.loop-r.invariant.room, c.in_ok-push.ensures.capacity);
}
