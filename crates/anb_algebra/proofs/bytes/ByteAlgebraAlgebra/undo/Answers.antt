use Rattle.std.proofs.Common.{◌≡◌, true, ap, ◌∙◌}
use Rattle.anb_term.specs.declared.term.Op.{Op}
use Rattle.anb_term.specs.Operator.{keys}
use Rattle.anb_term.specs.Lawful.{picked}
use Rattle.anb_term.proofs.Lists.{slice_get-at}
use Rattle.anb_algebra.specs.ByteMeaning.{has_operator}
use Rattle.anb_algebra.proofs.Picks.{length-picked, none_picked, one_picked, two_picked}
use Rattle.anb_algebra.proofs.Operators.{has_within, pieces_at-there}
use Rattle.anb_algebra.proofs.bytes.ByteAlgebraAlgebra.undo.Goals as goal

pub returns-in_ok-opened-in-Seal : goal.returns-in_ok-opened-in-Seal
returns-in_ok-opened-in-Seal c v e =
    let picks = picked c.args.table.now c.args.keys.now in
    let count = length-picked c.args.table.now c.args.keys.now c.requires.within ∙ c.requires.count ∙ ap keys c.in-Seal.is in
    let one = one_picked picks c.operand.result.now count c.operand.ensures in
    let there = slice_get-at c.args.table.now c.args.of c.index-table-of.result c.requires.of_within c.index-table-of.is in
    let whole : c.as_slice-bytes.result.now ≡ v = let same : c.index-table-of.result ≡ v = cc in c.as_slice-bytes.ensures ∙ same in
    rw (one, c.in-Seal.is, ← c.self.view_is, ← whole) (rw c.in_ok-opened-in-Seal.ensures at c.one_part.ensures)

pub returns-in_ok-opened-in-Wrap : goal.returns-in_ok-opened-in-Wrap
returns-in_ok-opened-in-Wrap c v e =
    let picks = picked c.args.table.now c.args.keys.now in
    let count = length-picked c.args.table.now c.args.keys.now c.requires.within ∙ c.requires.count ∙ ap keys c.in-Wrap.is in
    let two = two_picked picks c.operand-in-Wrap.result.now c.operand-in-Wrap-2.result.now count c.operand-in-Wrap.ensures c.operand-in-Wrap-2.ensures in
    let there = slice_get-at c.args.table.now c.args.of c.index-table-of.result c.requires.of_within c.index-table-of.is in
    let whole : c.as_slice-bytes.result.now ≡ v = let same : c.index-table-of.result ≡ v = cc in c.as_slice-bytes.ensures ∙ same in
    rw (two, c.in-Wrap.is, ← c.self.view_is, ← whole) (rw c.in_ok-opened-in-Wrap.ensures at c.one_part-in-Wrap.ensures)

pub returns-in-Format : goal.returns-in-Format
returns-in-Format c v e =
    let picks = picked c.args.table.now c.args.keys.now in
    let count = length-picked c.args.table.now c.args.keys.now c.requires.within ∙ c.requires.count ∙ ap keys c.in-Format.is in
    let none = none_picked picks count in
    let there = slice_get-at c.args.table.now c.args.of c.index-table-of.result c.requires.of_within c.index-table-of.is in
    let whole : c.as_slice-bytes.result.now ≡ v = let same : c.index-table-of.result ≡ v = cc in c.as_slice-bytes.ensures ∙ same in
    let has : has_operator c.self.inside.formats.now (Op.Format c.in-Format.index c.in-Format.arity) ≡ true = rw (c.in-Format.is, ← c.self.view_is) at c.requires.has in
    let within = has_within c.self.inside.formats.now c.in-Format.index c.in-Format.arity has in
    let pieces = pieces_at-there c.self.inside.formats.now c.in-Format.index c.index-self-index.result within c.index-self-index.is in
    rw (none, c.in-Format.is, ← c.self.view_is, ← whole, pieces) (rw (← c.index-self-index.is) at c.undo_format.ensures)
