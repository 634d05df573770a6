use Rattle.std.proofs.Common.{arith, ap, ◌∙◌}
use Rattle.anb_close.specs.Standings.{cleared}
use Rattle.anb_close.proofs.Keeping.{set_next}
use Rattle.anb_close.proofs.index.clear.Goals as goal

pub loop-n-preserved : goal.loop-n-preserved
loop-n-preserved c = set_next (cleared c.args.at) c.args.standings.now.items c.loop-n.standings.items c.loop-n.n c.kept.result _ (omega arith) c.loop-n.invariant (c.kept.ensures ∙ ap (cleared c.args.at) c.index-s.ensures)
