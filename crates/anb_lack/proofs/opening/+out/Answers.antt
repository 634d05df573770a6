use Rattle.std.proofs.Common.{◌++◌, length, drop, arith, subst, sym, ap, ◌∙◌}
use Rattle.std.specs.List.{flat_map}
use Rattle.anb_term.specs.Operator.{keys}
use Rattle.anb_term.specs.Tree.{node, trees_of}
use Rattle.anb_term.proofs.Lists.{slice_get-there}
use Rattle.anb_intern.specs.declared.node.NodeId.{NodeId}
use Rattle.anb_intern.specs.Nodes.{AreUnder, IsOver, operands_at, tree_at}
use Rattle.anb_intern.proofs.Nodes.{under_drop, under_more}
use Rattle.anb_intern.proofs.Putting.{under_at, under_last}
use Rattle.anb_lack.specs.Opened.{comes_out}
use Rattle.anb_lack.proofs.ComingOut.{atom_out, open_out, out_next, shut_out}
use Rattle.anb_lack.proofs.opening.+out.Goals as goal

pub put_all_out-put_out-requires : goal.put_all_out-put_out-requires
put_all_out-put_out-requires t c =
    let d : NodeId = record { 0 = 0 } in
    let h = under_at c.args.end.0 c.args.ids.now c.loop-id.id-index d c.requires.below (omega arith) in
    (omega (arith, h, c.decreases), (omega (arith, h, c.requires.within), (c.requires.long, c.loop-id.invariant.under)))

pub put_all_out-loop-id-preserved : goal.put_all_out-loop-id-preserved
put_all_out-loop-id-preserved t c =
    let d : NodeId = record { 0 = 0 } in
    let ts = c.args.pool.now in
    let ids = c.args.ids.now in
    let i = c.loop-id.id-index in
    let h = under_at c.args.end.0 ids i d c.requires.below (omega arith) in
    let there = slice_get-there ts _ (omega (arith, h, c.requires.within)) in
    record {
      under = c.in_ok-put_out.ensures.under;
      out = λ has is. out_next has ts ids c.loop-id.out.items c.put_out.new.out.items i d there.0 _ (omega arith) there.1 (c.in_ok-put_out.ensures.out has there.0 is there.1) (c.loop-id.invariant.out has is);
    }

pub put_out-opens-requires-clause-under : goal.put_out-opens-requires-clause-under
put_out-opens-requires-clause-under t c =
    let n = length c.args.pool.now in
    let below = subst (IsOver c.args.id.0) c.in-Apply.is c.get.ensures.before in
    subst (AreUnder n) (sym c.deref.ensures.value) (under_more c.args.id.0 n _ (omega (arith, c.requires.within)) below)

pub put_out-returns-then-not-opens-clause-under : goal.put_out-returns-then-not-opens-clause-under
put_out-returns-then-not-opens-clause-under t c =
    let n = length c.args.pool.now in
    subst (AreUnder n) (sym c.in_ok-push.ensures.items) (under_last n n c.args.out.now.items c.args.id (omega arith) c.requires.within c.requires.under)

pub put_out-returns-then-not-opens-clause-out : goal.put_out-returns-then-not-opens-clause-out
put_out-returns-then-not-opens-clause-out t c has u is at =
    let ts = c.args.pool.now in
    let node_is = ap (tree_at ts) c.in-Apply.is ∙ ap (λ l. node c.in-Apply.op (trees_of (operands_at ts l))) (sym c.deref.ensures.value) in
    shut_out has ts c.args.out.now.items c.push.new.self.items c.args.id c.get.result.now u c.get.ensures.stands c.in_ok-push.ensures.items at c.in-Apply.op c.deref.result.now node_is
    (sym (c.opens.ensures has is) ∙ c.if-not-opens.true)

pub put_out-put_all_out-requires : goal.put_out-put_all_out-requires
put_out-put_all_out-requires t c =
    let n = length c.args.pool.now in
    let below = subst (IsOver c.args.id.0) c.in-Apply.is c.get.ensures.before in
    let front = subst (AreUnder c.args.id.0) (sym c.deref-in-Apply.ensures.value) below in (
      omega (arith, c.decreases),
      (
        subst (AreUnder c.args.id.0) (sym c.back.ensures) (under_drop c.args.id.0 _ c.deref-in-Apply.result.now front),
        (c.requires.within, (c.requires.long, subst (AreUnder n) (sym c.in_ok-push.ensures.items) (under_last n n c.args.out.now.items c.args.id (omega arith) c.requires.within c.requires.under))),
      ),
    )

pub put_out-returns-in-Atom-clause-under : goal.put_out-returns-in-Atom-clause-under
put_out-returns-in-Atom-clause-under t c =
    let n = length c.args.pool.now in
    subst (AreUnder n) (sym c.in_ok-push.ensures.items) (under_last n n c.args.out.now.items c.args.id (omega arith) c.requires.within c.requires.under)

pub put_out-returns-in-Atom-clause-out : goal.put_out-returns-in-Atom-clause-out
put_out-returns-in-Atom-clause-out t c has u is at =
    atom_out has c.args.pool.now c.args.out.now.items c.push.new.self.items c.args.id c.get.result.now u c.get.ensures.stands c.in_ok-push.ensures.items at _ c.in-Atom.is

pub put_out-returns-in_ok-put_all_out-in-Apply-clause-out : goal.put_out-returns-in_ok-put_all_out-in-Apply-clause-out
put_out-returns-in_ok-put_all_out-in-Apply-clause-out t c has u is at =
    let ts = c.args.pool.now in
    let o = c.in-Apply.op in
    let node_is = ap (tree_at ts) c.in-Apply.is ∙ ap (λ l. node o (trees_of (operands_at ts l))) (sym c.deref.ensures.value) in
    let same = c.deref-in-Apply.ensures.value ∙ sym c.deref.ensures.value in
    let behind = c.back.ensures ∙ ap (λ n. drop n c.deref-in-Apply.result.now) c.keys.ensures ∙ ap (drop (keys o)) same in
    let put = c.in_ok-put_all_out-in-Apply.ensures.out has is ∙ ap (λ l. operands_at ts c.push.new.self.items ++ flat_map (comes_out has) (operands_at ts l)) behind in
    open_out has ts c.args.out.now.items c.push.new.self.items c.args.id c.get.result.now u c.get.ensures.stands c.in_ok-push.ensures.items at o c.deref.result.now node_is
    _ (sym (c.opens.ensures has is) ∙ c.if-not-opens.false) put
