use Rattle.std.proofs.Common.{[], ◌∷◌, ◌++◌, map, ap, ◌∙◌, arith}
use Rattle.anb_term.specs.View.{tree_of}
use Rattle.anb_code.specs.Verified.{count_registers}
use Rattle.anb_report.specs.Noting.{notes_at, notes_from}
use Rattle.anb_report.proofs.Items.{turn_fewer}
use Rattle.anb_report.proofs.notes.notes_in.Goals as goal

pub notes_at-requires-clause-few : goal.notes_at-requires-clause-few
notes_at-requires-clause-few c =
    let formats = c.args.formats.now in
    let same = ap (count_registers formats) c.turn.ensures in
    omega (arith, same, turn_fewer formats c.args.instrs.now, c.requires.few)

pub returns : goal.returns
returns c free are =
    let formats = c.args.formats.now in
    let p = c.args.protocol.now in
    let trees = map tree_of c.args.terms.now in
    let instrs = c.args.instrs.now in
    let later = notes_from formats p trees free 0 instrs in
    c.in_ok-put_notes.ensures free are ∙ ap (λ l. l ++ later) (c.in_ok-push.ensures.items ∙ ap (λ l. l ++ c.in_ok-notes.notes ∷ []) c.new-out.ensures.items)
    ∙ ap (λ n. n ∷ later) (c.in_ok-notes.ensures free are ∙ ap (notes_at formats p trees free 0) c.turn.ensures)
