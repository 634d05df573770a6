use Rattle.std.proofs.Common.{◌+◌, drop, sym, ap, ◌∙◌, arith}
use Rattle.std.specs.List.{flat_map}
use Rattle.anb_lemmas.proofs.Lists.{drop_at_got}
use Rattle.anb_term.proofs.Lists.{slice_get-at}
use Rattle.anb_protocol.specs.Seen.{marked}
use Rattle.anb_report.specs.Looking.{compared}
use Rattle.anb_report.proofs.Marking.{marked_both}
use Rattle.anb_report.proofs.seen.mark_compared.Goals as goal

pub loop-instr-preserved : goal.loop-instr-preserved
loop-instr-preserved c =
    let instrs = c.args.instrs.now in
    let i = c.loop-instr.instr-index in
    let x = c.instr-item.result in
    let here = slice_get-at instrs i x (omega arith) c.instr-item.is in
    let marks = c.loop-instr.marks.items in
    let later = flat_map compared (drop (i + 1) instrs) in
    ap (λ m. marked m later) c.mark_compared_by.ensures ∙ sym (marked_both marks (compared x) later)
    ∙ ap (λ l. marked marks (flat_map compared l)) (sym (drop_at_got instrs i x here)) ∙ c.loop-instr.invariant
