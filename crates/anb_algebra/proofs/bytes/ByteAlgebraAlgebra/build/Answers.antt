use Rattle.std.proofs.Common.{◌≡◌, true, ap, ◌∙◌}
use Rattle.anb_term.specs.declared.term.Op.{Op}
use Rattle.anb_term.specs.Operator.{arity}
use Rattle.anb_term.specs.Lawful.{picked}
use Rattle.anb_algebra.specs.ByteMeaning.{has_operator}
use Rattle.anb_algebra.proofs.Picks.{length-picked, three_picked}
use Rattle.anb_algebra.proofs.Operators.{has_within, pieces_at-there}
use Rattle.anb_algebra.proofs.bytes.ByteAlgebraAlgebra.build.Goals as goal

pub returns-in-Wrap : goal.returns-in-Wrap
returns-in-Wrap c =
    let count = length-picked c.args.table.now c.args.at.now c.requires.within ∙ c.requires.count ∙ ap arity c.in-Wrap.is in
    let three = three_picked (picked c.args.table.now c.args.at.now) c.operand-in-Wrap.result.now c.operand-in-Wrap-2.result.now c.operand-in-Wrap-3.result.now count c.operand-in-Wrap.ensures c.operand-in-Wrap-2.ensures c.operand-in-Wrap-3.ensures in
    rw (three, c.in-Wrap.is, ← c.self.view_is) c.wrap_in.ensures

pub returns-in-Format : goal.returns-in-Format
returns-in-Format c =
    let has : has_operator c.self.inside.formats.now (Op.Format c.in-Format.index c.in-Format.arity) ≡ true = rw (c.in-Format.is, ← c.self.view_is) at c.requires.has in
    let within = has_within c.self.inside.formats.now c.in-Format.index c.in-Format.arity has in
    let pieces = pieces_at-there c.self.inside.formats.now c.in-Format.index c.index-self-index.result within c.index-self-index.is in
    rw (c.in-Format.is, ← c.self.view_is, pieces) (rw (← c.index-self-index.is) at c.build_format.ensures)
