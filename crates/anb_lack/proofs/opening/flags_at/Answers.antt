use Rattle.std.proofs.Common.{length, arith}
use Rattle.anb_intern.specs.declared.node.NodeId.{NodeId}
use Rattle.anb_intern.proofs.Putting.{under_at}
use Rattle.anb_lack.proofs.ComingOut.{flag_next}
use Rattle.anb_lack.proofs.opening.flags_at.Goals as goal

pub bounds-flags-id : goal.bounds-flags-id
bounds-flags-id c =
    let d : NodeId = record { 0 = 0 } in
    omega (arith, under_at (length c.args.pool.now) c.args.ids.now c.loop-id.id-index d c.requires.under (omega arith), c.requires.long)

pub loop-id-preserved : goal.loop-id-preserved
loop-id-preserved c P is =
    let d : NodeId = record { 0 = 0 } in
    flag_next P c.args.pool.now c.args.flags.now c.args.ids.now c.loop-id.id-index d _ c.loop-id.out.items c.push.new.self.items c.requires.under (omega arith) is c.in_ok-push.ensures.items (c.loop-id.invariant P is)
