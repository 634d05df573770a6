use Rattle.std.proofs.Common.{◌∙◌, ◌≤◌, length, sym, ap, arith}
use Rattle.anb_base.specs.declared.TheConstants.{ARRIVAL}
use Rattle.anb_values_commands.proofs.Owned.{past_short}
use Rattle.anb_values_commands.proofs.owning.first_long.Goals as goal

pub loop-i-preserved : goal.loop-i-preserved
loop-i-preserved c =
    let short : length c.index-values-i.result ≤ ARRIVAL = omega (arith, c.if-as_slice.false, ap length c.as_slice.ensures) in
    sym (past_short c.args.labels.now c.args.values.now c.loop-i.i c.index-values-i.result (omega arith) c.requires c.index-values-i.is short) ∙ c.loop-i.invariant
