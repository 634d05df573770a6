use Rattle.std.proofs.Common.{◌≡◌, ◌++◌, ◌∷◌, [], List, length, refl, sym, ap, ◌∙◌, subst, arith}
use Rattle.anb_term.specs.Lawful.{picked}
use Rattle.anb_term.specs.Tree.{node, trees_of}
use Rattle.anb_intern.specs.declared.node.NodeId.{NodeId}
use Rattle.anb_intern.specs.Nodes.{operands_at, AreUnder}
use Rattle.anb_intern.proofs.Nodes.{operands_long}
use Rattle.anb_certify.specs.Numbered.{did_in}
use Rattle.anb_certify.specs.Progress.{found_in}
use Rattle.anb_certify.proofs.Progressing.{registers_come}
use Rattle.anb_certify.proofs.Signing.{under_picked, operands_picked}
use Rattle.anb_certify.proofs.Tabling.{has_grown, one_more}
use Rattle.anb_certify.proofs.table.Table.make.Goals as goal

pub numbers_at-requires : goal.numbers_at-requires
numbers_at-requires c k d l =
    omega (arith, c.requires.ready.1.2 k d l, operands_long c.args.self.now.pool c.args.self.now.ids.items, ap length c.deref.ensures.value)

pub put-requires-clause-over : goal.put-requires-clause-over
put-requires-clause-over c =
    let s = c.args.self.now in
    let are = c.in_ok-operands.ensures ∙ ap (λ (l : List NodeId). picked l c.args.operands.now) c.deref.ensures.value in
    subst (AreUnder (length s.pool)) (sym are) (under_picked (length s.pool) s.ids.items c.args.operands.now c.requires.table.under)

pub returns-clause-table : goal.returns-clause-table
returns-clause-table c =
    let s = c.args.self.now in
    let t = node c.args.op (trees_of (operands_at s.pool c.in_ok-operands.operands.items)) in
    let g = has_grown s.pool c.put.new.self t c.in_ok-id.ensures.put in
    let more = one_more s.pool c.put.new.self g.0 s.ids.items c.push.new.self.items c.in_ok-id.id t g.1 c.requires.table.under c.in_ok-id.ensures.stored c.in_ok-push.ensures.items in
    record {
      under = more.0;
      progress = registers_come s.ids.items c.push.new.self.items (c.in_ok-id.id ∷ []) (operands_at s.pool s.ids.items) _ (t ∷ []) (did_in s) (found_in s.progress) c.in_ok-push.ensures.items more.1 c.requires.table.progress;
    }

pub returns-clause-written : goal.returns-clause-written
returns-clause-written c =
    let s = c.args.self.now in
    let t = node c.args.op (trees_of (operands_at s.pool c.in_ok-operands.operands.items)) in
    let g = has_grown s.pool c.put.new.self t c.in_ok-id.ensures.put in
    let more = (one_more s.pool c.put.new.self g.0 s.ids.items c.push.new.self.items c.in_ok-id.id t g.1 c.requires.table.under c.in_ok-id.ensures.stored c.in_ok-push.ensures.items).1 in
    let are = c.in_ok-operands.ensures ∙ ap (λ (l : List NodeId). picked l c.args.operands.now) c.deref.ensures.value in
    let term : t ≡ node c.args.op (trees_of (picked (operands_at s.pool s.ids.items) c.args.operands.now)) =
    ap (λ l. node c.args.op (trees_of (operands_at s.pool l))) are ∙ ap (λ l. node c.args.op (trees_of l)) (operands_picked s.pool s.ids.items c.args.operands.now) in
    (λ f. cc, λ t. (node c.args.op (trees_of (picked (operands_at s.pool s.ids.items) c.args.operands.now)) ∷ [], refl, more ∙ ap (λ u. operands_at s.pool s.ids.items ++ u ∷ []) term, refl))
