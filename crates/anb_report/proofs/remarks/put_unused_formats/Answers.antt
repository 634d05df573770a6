use Rattle.std.proofs.Common.{◌+◌, ◌-◌, ◌++◌, length, sym, ap, ◌∙◌, arith, append_assoc}
use Rattle.std.specs.List.{flat_map, range_with_len}
use Rattle.anb_report.specs.Remarks.{unused_format}
use Rattle.anb_report.proofs.Items.{first_of}
use Rattle.anb_report.proofs.remarks.put_unused_formats.Goals as goal

pub loop-i-preserved : goal.loop-i-preserved
loop-i-preserved c =
    let f = unused_format c.args.formats.now c.args.used.now in
    let i = c.loop-i.i in
    let n = length c.args.formats.now in
    let out = c.loop-i.out.items in
    let later = flat_map f (range_with_len (i + 1) (n - (i + 1))) in
    ap (λ l. l ++ later) c.in_ok-put_unused_format.ensures ∙ append_assoc out (f i) later ∙ ap (λ l. out ++ flat_map f l) (sym (first_of i n (omega arith))) ∙ c.loop-i.invariant
