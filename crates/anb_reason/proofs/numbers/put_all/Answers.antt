use Rattle.std.proofs.Common.{arith}
use Rattle.anb_intern.proofs.Putting.{put_next}
use Rattle.anb_reason.proofs.numbers.put_all.Goals as goal

pub loop-t-preserved : goal.loop-t-preserved
loop-t-preserved c = put_next c.args.pool.now c.loop-t.pool c.loop-t.ids.items c.args.terms.now c.loop-t.t-index c.t-item.result c.loop-t.invariant (omega arith) c.t-item.is _ _ c.in_ok-id.id c.in_ok-id.ensures.more c.in_ok-id.ensures.stored c.in_ok-push.ensures.items
