use Rattle.std.proofs.Common.{◌+◌, ◌-◌, ◌++◌, length, sym, ap, ◌∙◌, arith, append_assoc}
use Rattle.std.specs.List.{flat_map, range_with_len}
use Rattle.anb_report.specs.Remarks.{unused_name, used_atoms}
use Rattle.anb_report.proofs.Items.{first_of}
use Rattle.anb_report.proofs.names.put_unused_names.Goals as goal

pub loop-i-preserved : goal.loop-i-preserved
loop-i-preserved c =
    let p = c.args.protocol.now in
    let f = unused_name p (used_atoms p) in
    let i = c.loop-i.i in
    let n = length p.atoms in
    let out = c.loop-i.out.items in
    let later = flat_map f (range_with_len (i + 1) (n - (i + 1))) in
    let many = ap length c.declared-i-end.ensures in
    ap (λ l. l ++ later) c.in_ok-put_unused_name.ensures ∙ append_assoc out (f i) later
    ∙ ap (λ l. out ++ flat_map f l) (sym (first_of i n (omega (arith, many)))) ∙ c.loop-i.invariant
