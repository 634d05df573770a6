-- A node and its operands.
use Rattle.std.proofs.Common.{arith, sym, ap, ◌∙◌}
use Rattle.anb_term.specs.View.{tree_of}
use Rattle.anb_term.proofs.Lists.{one_size}
use Rattle.anb_algebra.specs.ByteMeaning.{has_operator}
use Rattle.anb_partner.proofs.Formed.{formed_not, formed_told}
use Rattle.anb_partner.proofs.standing.+formed.Goals as goal

pub are_formed-is_formed-requires : goal.are_formed-is_formed-requires
are_formed-is_formed-requires t c =
    let one = one_size c.args.terms.now c.loop-t.t-index c.t-item.result (omega arith) c.t-item.is in (omega (arith, one, c.decreases), c.requires)

pub is_formed-returns-then-takes : goal.is_formed-returns-then-takes
is_formed-returns-then-takes t c =
    formed_told (has_operator c.args.formats.now) (tree_of c.args.t.now) c.in-Node.op c.in-Node.operands (ap tree_of c.in-Node.is) _ c.are_formed.result c.as_slice.ensures (sym c.takes.ensures ∙ c.if-takes.true) c.are_formed.ensures

pub is_formed-returns-else-takes : goal.is_formed-returns-else-takes
is_formed-returns-else-takes t c =
    formed_not (has_operator c.args.formats.now) (tree_of c.args.t.now) c.in-Node.op c.in-Node.operands (ap tree_of c.in-Node.is) (sym c.takes.ensures ∙ c.if-takes.false)
