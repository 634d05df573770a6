use Rattle.std.proofs.Common.{◌++◌, ap, ◌∙◌, sym, subst, drop, true}
use Rattle.std.specs.List.{flat_map}
use Rattle.anb_term.specs.Tree.{node, trees_of}
use Rattle.anb_intern.specs.Nodes.{AreUnder, IsOver, operands_at, tree_at}
use Rattle.anb_intern.proofs.Nodes.{under_drop}
use Rattle.anb_lack.specs.Opened.{comes_out}
use Rattle.anb_lack.proofs.ComingOut.{atom_inside, node_inside}
use Rattle.anb_lack.proofs.opening.put_inside.Goals as goal

pub put_all_out-requires-clause-below : goal.put_all_out-requires-clause-below
put_all_out-requires-clause-below c =
    let below = subst (IsOver c.args.id.0) c.in-Apply.is c.get.ensures.before in
    subst (AreUnder c.args.id.0) (sym c.back.ensures) (under_drop c.args.id.0 _ c.deref.result.now (subst (AreUnder c.args.id.0) (sym c.deref.ensures.value) below))

pub returns-in-Atom-clause-inside : goal.returns-in-Atom-clause-inside
returns-in-Atom-clause-inside c t at = atom_inside c.args.pool.now c.args.out.now.items c.args.id c.get.result.now t c.get.ensures.stands at _ c.in-Atom.is

pub returns-in_ok-put_all_out-in-Apply-clause-inside : goal.returns-in_ok-put_all_out-in-Apply-clause-inside
returns-in_ok-put_all_out-in-Apply-clause-inside c t at =
    let ts = c.args.pool.now in
    let o = c.in-Apply.op in
    let node_is = ap (tree_at ts) c.in-Apply.is ∙ ap (λ l. node o (trees_of (operands_at ts l))) (sym c.deref.ensures.value) in
    let behind = c.back.ensures ∙ ap (λ n. drop n c.deref.result.now) c.keys.ensures in
    let put = c.in_ok-put_all_out-in-Apply.ensures.out (λ u. true) c.requires.flags ∙ ap (λ l. operands_at ts c.args.out.now.items ++ flat_map (comes_out (λ u. true)) (operands_at ts l)) behind in
    node_inside ts c.args.out.now.items c.args.id c.get.result.now t c.get.ensures.stands at o c.deref.result.now _ node_is put
