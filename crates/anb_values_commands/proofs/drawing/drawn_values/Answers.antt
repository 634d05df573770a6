use Rattle.std.proofs.Common.{arith}
use Rattle.anb_values_commands.proofs.DrawnValues.{values_next}
use Rattle.anb_values_commands.proofs.drawing.drawn_values.Goals as goal

pub loop-i-preserved : goal.loop-i-preserved
loop-i-preserved c = λ p same.
    values_next p c.args.seed.now c.args.names.now c.loop-i.i c.index-names-i.result c.loop-i.values.items c.push.new.self.items c.in_ok-value_for.field-0 (omega arith) c.index-names-i.is
    (c.loop-i.invariant p same) c.in_ok-push.ensures.items (rw c.as_str.ensures at (c.in_ok-value_for.ensures p same))
