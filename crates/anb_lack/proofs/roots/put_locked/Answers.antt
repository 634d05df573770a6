use Rattle.std.proofs.Common.{length, arith}
use Rattle.anb_term.proofs.Lists.{slice_get-there}
use Rattle.anb_intern.specs.declared.node.NodeId.{NodeId}
use Rattle.anb_intern.proofs.Putting.{under_at}
use Rattle.anb_lack.proofs.Locking.{locked_next}
use Rattle.anb_lack.proofs.roots.put_locked.Goals as goal

pub put_if_locked-requires-clause-within : goal.put_if_locked-requires-clause-within
put_if_locked-requires-clause-within c =
    let d : NodeId = record { 0 = 0 } in
    under_at (length c.args.pool.now) c.args.ids.now c.loop-id.id-index d c.requires.under (omega arith)

pub loop-id-preserved : goal.loop-id-preserved
loop-id-preserved c =
    let d : NodeId = record { 0 = 0 } in
    let ts = c.args.pool.now in
    let ids = c.args.ids.now in
    let i = c.loop-id.id-index in
    let there = slice_get-there ts _ (under_at (length ts) ids i d c.requires.under (omega arith)) in
    record {
      inside = c.in_ok-put_if_locked.ensures.inside;
      locks = λ S is. locked_next S ts c.args.from ids c.loop-id.out.items c.put_if_locked.new.out.items i d there.0 _ (omega arith) there.1 (c.in_ok-put_if_locked.ensures.locks S there.0 is there.1) (c.loop-id.invariant.locks S is);
    }
