use Rattle.std.proofs.Common.{◌≡◌, List, length, sym, ap, ◌∙◌, subst, arith, ⊎_elim}
use Rattle.anb_lemmas.proofs.Lists.{got_within}
use Rattle.anb_term.specs.Lawful.{picked}
use Rattle.anb_term.specs.Tree.{node, trees_of}
use Rattle.anb_intern.specs.declared.node.NodeId.{NodeId}
use Rattle.anb_intern.specs.Nodes.{operands_at, AreUnder}
use Rattle.anb_intern.proofs.Nodes.{operands_long}
use Rattle.anb_certify.proofs.Signing.{under_picked, signed, under_still, owners_long, sign_place}
use Rattle.anb_certify.proofs.signs.Signs.sign.Goals as goal

pub numbers_at-requires : goal.numbers_at-requires
numbers_at-requires c k d l =
    omega (arith, c.requires.within k d l, operands_long c.args.self.now.pool c.args.self.now.classes.items, ap length c.deref.ensures.value)

pub put-requires-clause-over : goal.put-requires-clause-over
put-requires-clause-over c =
    let s = c.args.self.now in
    let are = c.in_ok-operands.ensures ∙ ap (λ (l : List NodeId). picked l c.args.operands.now) c.deref.ensures.value in
    subst (AreUnder (length s.pool)) (sym are) (under_picked (length s.pool) s.classes.items c.args.operands.now c.requires.signs.0)

pub owner-requires : goal.owner-requires
owner-requires c =
    let s = c.args.self.now in
    let t = node c.args.op (trees_of (operands_at s.pool c.in_ok-operands.operands.items)) in
    omega (arith, c.requires.signs.1, got_within c.put.new.self c.in_ok-id.id.0 t c.in_ok-id.ensures.stored, owners_long s.pool c.put.new.self t c.in_ok-id.ensures.put)

pub returns-clause-signs : goal.returns-clause-signs
returns-clause-signs c =
    let s = c.args.self.now in
    let pool2 = c.put.new.self in
    let id = c.in_ok-id.id.0 in
    let ids = c.in_ok-operands.operands.items in
    let t = node c.args.op (trees_of (operands_at s.pool ids)) in
    let are = c.in_ok-operands.ensures ∙ ap (λ (l : List NodeId). picked l c.args.operands.now) c.deref.ensures.value in
    let under = under_still s.pool pool2 s.classes.items s.owners.items c.owner.new.owners.items id c.args.at c.in_ok-owner.owner c.args.op c.args.operands.now ids are c.in_ok-id.ensures.put c.in_ok-id.ensures.stored c.requires.signs.0 c.len-2.ensures.distinct c.requires.signs.1 c.in_ok-owner.ensures.owned in
    let long : length c.owner.new.owners.items ≡ length pool2 = ⊎_elim (λ x. c.in_ok-owner.ensures.long.0 (omega (arith, x.0, c.requires.signs.1)) ∙ c.requires.signs.1 ∙ sym x.1)
    (λ x. c.in_ok-owner.ensures.long.1 (x.0 ∙ sym c.requires.signs.1) ∙ omega (arith, x.1, c.requires.signs.1)) (sign_place s.pool pool2 t id c.in_ok-id.ensures.put c.in_ok-id.ensures.stored c.len-2.ensures.distinct) in
    (under, long)

pub returns-clause-signed : goal.returns-clause-signed
returns-clause-signed c =
    let s = c.args.self.now in
    let ids = c.in_ok-operands.operands.items in
    let are = c.in_ok-operands.ensures ∙ ap (λ (l : List NodeId). picked l c.args.operands.now) c.deref.ensures.value in
    signed s.pool c.put.new.self s.classes.items s.owners.items c.owner.new.owners.items c.in_ok-id.id.0 c.args.at c.in_ok-owner.owner c.args.op c.args.operands.now ids are c.in_ok-id.ensures.put c.in_ok-id.ensures.stored c.requires.signs.0 c.len-2.ensures.distinct c.requires.signs.1 c.in_ok-owner.ensures.owned
