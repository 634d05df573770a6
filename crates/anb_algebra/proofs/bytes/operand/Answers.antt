use Rattle.std.proofs.Common.{Some, get_or, ap, ◌∙◌, sym}
use Rattle.anb_term.proofs.Lists.{slice_get-at}
use Rattle.anb_algebra.proofs.Picks.{picked_at}
use Rattle.anb_algebra.proofs.bytes.operand.Goals as goal

pub returns : goal.returns
returns c =
    let place = get_or c.args.at.now c.args.i 0 in
    let there = slice_get-at c.args.table.now place c.index-table-at.result (c.requires.within c.args.i 0 c.requires.there) c.index-table-at.is in
    picked_at c.args.table.now c.args.at.now c.args.i c.as_slice.result.now c.requires.within c.requires.there (there ∙ ap (λ x. Some x) (sym c.as_slice.ensures))
