use Rattle.std.proofs.Common.{length, arith}
use Rattle.anb_intern.proofs.Nodes.{over_more}
use Rattle.anb_close.proofs.Linking.{link_next, linked_stay}
use Rattle.anb_close.proofs.parents.link.Goals as goal

pub loop-n-init : goal.loop-n-init
loop-n-init c =
    let e = c.in_ok-pad.ensures in
    record {
      stay = e.stay;
      longer = e.longer;
      long = omega (arith, e.long, c.len-count.ensures.count);
      linked = linked_stay c.args.pool.now c.args.parents.now.items c.pad.new.parents.items c.args.from e.stay;
    }

pub link_node-requires : goal.link_node-requires
link_node-requires c = record { over = over_more c.loop-n.n (length c.loop-n.parents.items) c.get.result.now (omega (arith, c.loop-n.invariant.long, c.len-count.ensures.count)) c.get.ensures.before }

pub returns-in_err-link_node-clause-stay : goal.returns-in_err-link_node-clause-stay
returns-in_err-link_node-clause-stay c w n h = c.in_err-link_node.ensures.stay w n (c.loop-n.invariant.stay w n h)

pub loop-n-preserved : goal.loop-n-preserved
loop-n-preserved c =
    let i = c.loop-n.invariant in
    let e = c.in_ok-link_node.ensures in
    record {
      stay = λ w n h. e.stay w n (i.stay w n h);
      longer = omega (arith, i.longer, e.long);
      long = omega (arith, i.long, e.long);
      linked = λ before. link_next c.args.pool.now c.loop-n.parents.items c.link_node.new.parents.items c.loop-n.n c.get.result.now c.len-count.ensures.distinct (omega (arith, c.len-count.ensures.count)) c.get.ensures.stands c.get.ensures.before e.stay e.linked (i.linked before);
    }

pub returns-clause-linked : goal.returns-clause-linked
returns-clause-linked c before n o ids h = c.loop-n.invariant.linked before n o ids (omega (arith, c.len-count.ensures.count))
