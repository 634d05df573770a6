use Rattle.std.proofs.Common.{◌∷◌, [], map, take, true, arith, ap}
use Rattle.anb_lemmas.proofs.Options.{if_some_any}
use Rattle.anb_term.specs.Tree.{nodes}
use Rattle.anb_term.specs.View.{tree_of}
use Rattle.anb_close.proofs.Growing.{formed_append, nodes_append}
use Rattle.anb_term_tests.proofs.Counting.{one_more, node_formed, node_sized, taken}
use Rattle.anb_term_tests.proofs.checks.+count.Goals as goal

pub node_count-returns-in-Some-clause-formed : goal.node_count-returns-in-Some-clause-formed
node_count-returns-in-Some-clause-formed t c =
    if_some_any c.checked_add.result _ (node_formed c.args.t.now c.in-Node.op c.in-Node.operands c.as_slice.result.now c.in-Node.is c.as_slice.ensures (omega arith) c.in-Some.ensures.formed)

pub node_count-returns-in-Some-clause-size : goal.node_count-returns-in-Some-clause-size
node_count-returns-in-Some-clause-size t c =
    one_more c.checked_add.result c.in-Some.n _ c.checked_add.ensures (node_sized c.args.t.now c.in-Node.op c.in-Node.operands c.as_slice.result.now c.in-Node.is c.as_slice.ensures c.in-Some.n c.in-Some.ensures.size)

pub node_counts-loop-t-preserved : goal.node_counts-loop-t-preserved
node_counts-loop-t-preserved t c =
    let i = c.loop-t.invariant in
    let done = map tree_of (take c.loop-t.t-index c.args.ts.now) in
    let x = c.t-item.result in
    let next = taken c.args.ts.now c.loop-t.t-index x (omega arith) c.t-item.is in
    record {
      formed = rw next (formed_append (λ o. true) done (tree_of x ∷ []) i.formed (c.in-Some.ensures.formed, tt));
      size = omega (arith, c.in-Some-checked_add.ensures, i.size, c.in-Some.ensures.size, ap nodes next, nodes_append done (tree_of x ∷ []));
    }
