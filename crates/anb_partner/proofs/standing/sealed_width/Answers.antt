use Rattle.std.proofs.Common.{◌+◌, ◌-◌, length, get_or, ap, sym, ◌∙◌, arith}
use Rattle.anb_base.specs.declared.TheConstants.{WIDE}
use Rattle.anb_protocol.specs.Widths.{at_most}
use Rattle.anb_protocol.proofs.WidthLemmas.{sealed_last, at_most_some, at_most_none}
use Rattle.anb_partner.proofs.standing.sealed_width.Goals as goal

pub returns-then-body : goal.returns-then-body
returns-then-body c =
    let ws = c.args.widths.now in
    sym (ap (at_most WIDE) (sealed_last ws c.requires.some) ∙ at_most_some WIDE (get_or ws (length ws - 1) 0 + 32) (omega (arith, c.if-body.true)))

pub returns-else-body : goal.returns-else-body
returns-else-body c =
    let ws = c.args.widths.now in
    sym (ap (at_most WIDE) (sealed_last ws c.requires.some) ∙ at_most_none WIDE (get_or ws (length ws - 1) 0 + 32) (omega (arith, c.if-body.false)))
