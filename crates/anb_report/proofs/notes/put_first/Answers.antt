use Rattle.std.proofs.Common.{[], ◌∷◌, ◌++◌, map, sym, ap, ◌∙◌}
use Rattle.anb_term.specs.View.{tree_of}
use Rattle.anb_report.specs.Noting.{notes_at}
use Rattle.anb_report.proofs.Items.{message_notes}
use Rattle.anb_report.proofs.notes.put_first.Goals as goal

pub returns : goal.returns
returns c free are =
    let formats = c.args.formats.now in
    let p = c.args.protocol.now in
    let trees = map tree_of c.args.terms.now in
    let next = c.args.next in
    let instrs = c.args.instrs.now in
    let out = c.args.out.now.items in
    c.in_ok-push.ensures.items ∙ ap (λ n. out ++ n ∷ []) (c.in_ok-notes.ensures free are ∙ ap (notes_at formats p trees free next) c.message_turn.ensures)
    ∙ ap (λ l. out ++ l) (sym (message_notes formats p trees free next instrs c.index-instrs-0.result c.requires.some c.index-instrs-0.is (sym c.is_message.ensures ∙ c.if-not-is_message.false)))
