use Rattle.std.proofs.Common.{arith}
use Rattle.anb_close.specs.Entries.{cut_first}
use Rattle.anb_close.proofs.Keeping.{set_next}
use Rattle.anb_close.proofs.growth.clear_from.Goals as goal

pub loop-f-preserved : goal.loop-f-preserved
loop-f-preserved c = set_next (cut_first c.args.at) c.args.firsts.now c.loop-f.firsts c.loop-f.f-index c.kept.result _ (omega arith) c.loop-f.invariant c.kept.ensures
