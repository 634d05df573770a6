use Rattle.std.proofs.Common.{◌+◌, ◌-◌, sym, ap, ◌∙◌, arith}
use Rattle.std.specs.List.{range_with_len}
use Rattle.anb_protocol.specs.Seen.{marked}
use Rattle.anb_report.proofs.Items.{first_of}
use Rattle.anb_report.proofs.marks.mark_between.Goals as goal

pub loop-n-preserved : goal.loop-n-preserved
loop-n-preserved c =
    let n = c.loop-n.n in
    let end = c.args.end in
    let marks = c.loop-n.marks.items in
    ap (λ m. marked m (range_with_len (n + 1) (end - (n + 1)))) c.mark.ensures.marks ∙ ap (marked marks) (sym (first_of n end (omega arith))) ∙ c.loop-n.invariant
