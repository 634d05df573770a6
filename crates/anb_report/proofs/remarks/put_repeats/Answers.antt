use Rattle.std.proofs.Common.{◌+◌, ◌-◌, ◌++◌, length, map, sym, ap, ◌∙◌, arith, append_assoc}
use Rattle.std.specs.List.{flat_map, range_with_len}
use Rattle.anb_protocol.specs.Views.{action_value}
use Rattle.anb_report.specs.Remarks.{repeated}
use Rattle.anb_report.proofs.Items.{first_of}
use Rattle.anb_report.proofs.remarks.put_repeats.Goals as goal

pub loop-i-preserved : goal.loop-i-preserved
loop-i-preserved c =
    let f = repeated (map action_value c.args.actions.now) in
    let i = c.loop-i.i in
    let n = length c.args.actions.now in
    let out = c.loop-i.out.items in
    let later = flat_map f (range_with_len (i + 1) (n - (i + 1))) in
    ap (λ l. l ++ later) c.in_ok-put_repeated.ensures ∙ append_assoc out (f i) later ∙ ap (λ l. out ++ flat_map f l) (sym (first_of i n (omega arith))) ∙ c.loop-i.invariant
