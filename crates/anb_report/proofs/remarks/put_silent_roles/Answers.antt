use Rattle.std.proofs.Common.{◌+◌, ◌-◌, ◌++◌, length, sym, ap, ◌∙◌, arith, append_assoc}
use Rattle.std.specs.List.{flat_map, range_with_len}
use Rattle.anb_report.specs.Remarks.{silent_role}
use Rattle.anb_report.proofs.Items.{first_of}
use Rattle.anb_report.proofs.remarks.put_silent_roles.Goals as goal

pub loop-role-preserved : goal.loop-role-preserved
loop-role-preserved c =
    let f = silent_role c.args.protocol.now in
    let i = c.loop-role.role in
    let n = length c.args.protocol.now.roles in
    let out = c.loop-role.out.items in
    let later = flat_map f (range_with_len (i + 1) (n - (i + 1))) in
    ap (λ l. l ++ later) c.in_ok-put_silent_role.ensures ∙ append_assoc out (f i) later ∙ ap (λ l. out ++ flat_map f l) (sym (first_of i n (omega (arith, c.count_roles-role-end.ensures)))) ∙ c.loop-role.invariant
