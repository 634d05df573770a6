use Rattle.std.proofs.Common.{◌+◌, ◌-◌, [], ◌∷◌, ◌++◌, sym, ap, ◌∙◌, arith, append_assoc}
use Rattle.std.specs.List.{range_with_len}
use Rattle.anb_report.proofs.Items.{first_of}
use Rattle.anb_report.proofs.registers.put_between.Goals as goal

pub loop-r-preserved : goal.loop-r-preserved
loop-r-preserved c =
    let r = c.loop-r.r in
    let end = c.args.end in
    let out = c.loop-r.out.items in
    let later = range_with_len (r + 1) (end - (r + 1)) in
    ap (λ l. l ++ later) c.in_ok-push.ensures.items ∙ append_assoc out (r ∷ []) later ∙ ap (λ l. out ++ l) (sym (first_of r end (omega arith))) ∙ c.loop-r.invariant
