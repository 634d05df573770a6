use Rattle.std.proofs.Common.{arith, ap, sym, ◌∙◌, Some}
use Rattle.anb_term.specs.View.{tree_of}
use Rattle.anb_term.proofs.Lists.{one_size}
use Rattle.anb_intern.proofs.Putting.{find_next, find_none, node_not}
use Rattle.anb_intern.proofs.pool.Pool.+find.Goals as goal

pub find_all-find_term-requires : goal.find_all-find_term-requires
find_all-find_term-requires t c =
    let one = one_size c.args.ts.now c.loop-t.t-index c.t-item.result (omega arith) c.t-item.is in
    (omega (arith, one, c.decreases), tt)

pub find_all-returns-in-None : goal.find_all-returns-in-None
find_all-returns-in-None t c =
    let none = rw c.in-None.is at c.in_ok-find_term.ensures in
    find_none c.args.self.now c.loop-t.ids.items c.args.ts.now c.loop-t.t-index c.t-item.result (omega arith) c.t-item.is none

pub find_all-loop-t-preserved : goal.find_all-loop-t-preserved
find_all-loop-t-preserved t c =
    let at = rw c.in-Some.is at c.in_ok-find_term.ensures in
    find_next c.args.self.now c.loop-t.ids.items c.args.ts.now c.loop-t.t-index c.t-item.result (omega arith) c.t-item.is c.loop-t.invariant c.in-Some.id _ at c.in_ok-push-in-Some.ensures.items

pub find_term-returns-in-None : goal.find_term-returns-in-None
find_term-returns-in-None t c i at =
    let none = rw c.in-None.is at c.in_ok-find_all-in-Node.ensures in
    let here = at ∙ ap (λ u. Some (tree_of u)) c.in-Node.is in
    node_not c.args.self.now c.in-Node.op c.in-Node.operands i c.len.ensures.before (λ ids u e. none ids u (e ∙ sym c.as_slice.ensures)) here
