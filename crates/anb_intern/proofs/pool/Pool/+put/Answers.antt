use Rattle.std.proofs.Common.{◌≡◌, ◌+◌, ◌<◌, ◌≤◌, length, arith, map, drop}
use Rattle.anb_intern.proofs.Putting.{IsPutting, next_fits, put_next}
use Rattle.anb_intern.proofs.pool.Pool.+put.Goals as goal

pub put_all-loop-t-preserved : goal.put_all-loop-t-preserved
put_all-loop-t-preserved t c = put_next c.args.self.now c.loop-t.self c.loop-t.ids.items c.args.ts.now c.loop-t.t-index c.t-item.result c.loop-t.invariant (omega arith) c.t-item.is _ _ c.in_ok-id.id c.in_ok-id.ensures.more c.in_ok-id.ensures.stored c.in_ok-push.ensures.items
