use Rattle.std.proofs.Common.{◌++◌, length, Some, arith, subst, sym, ap, ◌∙◌}
use Rattle.anb_term.specs.Tree.{trees_of}
use Rattle.anb_term.proofs.Lists.{slice_get-there}
use Rattle.anb_intern.specs.declared.node.NodeId.{NodeId}
use Rattle.anb_intern.specs.declared.node.Node.{Node}
use Rattle.anb_intern.specs.Nodes.{AreUnder, IsOver, operands_at, tree_at}
use Rattle.anb_intern.proofs.Putting.{under_at, under_last}
use Rattle.anb_lack.specs.Parts.{parts_of_all}
use Rattle.anb_lack.proofs.Parting.{atom_parts, node_parts, parts_next}
use Rattle.anb_lack.proofs.parts.+parts.Goals as goal

pub put_all_parts-put_parts-requires : goal.put_all_parts-put_parts-requires
put_all_parts-put_parts-requires t c =
    let d : NodeId = record { 0 = 0 } in
    let h = under_at c.args.end.0 c.args.ids.now c.loop-id.id-index d c.requires.below (omega arith) in
    (omega (arith, h, c.decreases), (omega (arith, h, c.requires.within), c.loop-id.invariant.under))

pub put_all_parts-loop-id-preserved : goal.put_all_parts-loop-id-preserved
put_all_parts-loop-id-preserved t c =
    let d : NodeId = record { 0 = 0 } in
    let ts = c.args.pool.now in
    let ids = c.args.ids.now in
    let i = c.loop-id.id-index in
    let h = under_at c.args.end.0 ids i d c.requires.below (omega arith) in
    let there = slice_get-there ts _ (omega (arith, h, c.requires.within)) in
    record {
      under = c.in_ok-put_parts.ensures.under;
      parts = parts_next ts ids c.loop-id.out.items c.put_parts.new.out.items i d there.0 _ (omega arith) there.1 (c.in_ok-put_parts.ensures.parts there.0 there.1) c.loop-id.invariant.parts;
    }

pub put_parts-put_all_parts-requires : goal.put_parts-put_all_parts-requires
put_parts-put_all_parts-requires t c =
    let n = length c.args.pool.now in
    let below = subst (IsOver c.args.id.0) c.in-Apply.is c.get.ensures.before in (
      omega (arith, c.decreases),
      (
        subst (AreUnder c.args.id.0) (sym c.deref.ensures.value) below,
        (c.requires.within, subst (AreUnder n) (sym c.in_ok-push.ensures.items) (under_last n n c.args.out.now.items c.args.id (omega arith) c.requires.within c.requires.under)),
      ),
    )

pub put_parts-returns-in-Atom-clause-under : goal.put_parts-returns-in-Atom-clause-under
put_parts-returns-in-Atom-clause-under t c =
    let n = length c.args.pool.now in
    subst (AreUnder n) (sym c.in_ok-push.ensures.items) (under_last n n c.args.out.now.items c.args.id (omega arith) c.requires.within c.requires.under)

pub put_parts-returns-in-Atom-clause-parts : goal.put_parts-returns-in-Atom-clause-parts
put_parts-returns-in-Atom-clause-parts t c u at =
    atom_parts c.args.pool.now c.args.out.now.items _ c.args.id _ c.get.result.now u c.get.ensures.stands c.in-Atom.is c.in_ok-push.ensures.items at

pub put_parts-returns-in_ok-put_all_parts-in-Apply-clause-parts : goal.put_parts-returns-in_ok-put_all_parts-in-Apply-clause-parts
put_parts-returns-in_ok-put_all_parts-in-Apply-clause-parts t c u at =
    let ts = c.args.pool.now in
    let ids = c.in-Apply.ids.items in
    let stands = c.get.ensures.stands ∙ ap (λ (k : Node). Some (tree_at ts k)) c.in-Apply.is in
    let on = c.in_ok-put_all_parts-in-Apply.ensures.parts ∙ ap (λ l. operands_at ts c.push.new.self.items ++ parts_of_all (trees_of (operands_at ts l))) c.deref.ensures.value in
    node_parts ts c.args.out.now.items c.push.new.self.items _ ids c.args.id _ u stands c.in_ok-push.ensures.items on at
