use Rattle.std.proofs.Common.{length, arith}
use Rattle.anb_lemmas.proofs.Lists.{got_within}
use Rattle.anb_intern.specs.declared.node.NodeId.{NodeId}
use Rattle.anb_intern.proofs.Putting.{under_at}
use Rattle.anb_close.proofs.Linking.{under_next}
use Rattle.anb_close.proofs.parents.link_all.Goals as goal

pub link_one-requires : goal.link_one-requires
link_one-requires c =
    let i = c.loop-id.invariant in
    record { within = omega (arith, i.long, let d : NodeId = record { 0 = 0 } in under_at (length c.args.parents.now.items) c.args.ids.now c.loop-id.id-index d c.requires.under (omega arith)) }

pub loop-id-preserved : goal.loop-id-preserved
loop-id-preserved c =
    let i = c.loop-id.invariant in
    let d : NodeId = record { 0 = 0 } in
    let e = c.in_ok-link_one.ensures in
    record {
      long = omega (arith, i.long, e.long);
      stay = λ w n h. e.stay w n (i.stay w n h);
      so_far = under_next c.loop-id.parents.items c.link_one.new.parents.items c.args.ids.now c.args.n c.loop-id.id-index d (omega arith) i.so_far e.stay e.listed;
    }

pub returns-clause-linked : goal.returns-clause-linked
returns-clause-linked c j id at = c.loop-id.invariant.so_far j id (omega (arith, got_within c.args.ids.now j id at)) at
