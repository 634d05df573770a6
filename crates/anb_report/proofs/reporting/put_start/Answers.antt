use Rattle.std.proofs.Common.{◌<◌, ◌++◌, length, sym, ap, ◌∙◌, arith, append_assoc}
use Rattle.std.specs.Prelude.{codes}
use Rattle.anb_report.specs.Reporting.{notes_line}
use Rattle.anb_report.proofs.Lines.{start_some}
use Rattle.anb_report.proofs.reporting.put_start.Goals as goal

pub returns : goal.returns
returns c =
    let notes = c.args.notes.now in
    let old = c.args.out.now.items in
    let some : 0 < length notes = grind (arith, c.is_empty.ensures, c.if-is_empty.false) in
    c.in_ok-put_notes.ensures ∙ ap (λ l. l ++ notes_line notes) c.in_ok-extend_from_slice.ensures.items ∙ append_assoc old (codes "  event 0, at the beginning\n") (notes_line notes) ∙ ap (λ l. old ++ l) (sym (start_some notes some))
