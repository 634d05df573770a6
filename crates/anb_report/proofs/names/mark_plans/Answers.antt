use Rattle.std.proofs.Common.{◌+◌, ◌-◌, length, sym, ap, ◌∙◌, arith}
use Rattle.std.specs.List.{flat_map, range_with_len}
use Rattle.anb_protocol.specs.Seen.{marked}
use Rattle.anb_report.specs.Remarks.{plan_atoms}
use Rattle.anb_report.proofs.Items.{first_of}
use Rattle.anb_report.proofs.Marking.{marked_both}
use Rattle.anb_report.proofs.names.mark_plans.Goals as goal

pub loop-role-preserved : goal.loop-role-preserved
loop-role-preserved c =
    let f = plan_atoms c.args.protocol.now in
    let i = c.loop-role.role in
    let n = length c.args.protocol.now.roles in
    let marks = c.loop-role.marks.items in
    let later = flat_map f (range_with_len (i + 1) (n - (i + 1))) in
    ap (λ m. marked m later) c.in_ok-mark_plan.ensures ∙ sym (marked_both marks (f i) later)
    ∙ ap (λ l. marked marks (flat_map f l)) (sym (first_of i n (omega (arith, c.count_roles-role-end.ensures)))) ∙ c.loop-role.invariant
