use Rattle.std.proofs.Common.{◌≡◌, ◌+◌, ◌++◌, drop, ap, ◌∙◌, arith}
use Rattle.std.specs.List.{flat_map}
use Rattle.anb_lemmas.proofs.Lists.{drop_next}
use Rattle.anb_text.proofs.Written.{not_all, one_part, same_due}
use Rattle.anb_chart.specs.Charts.{participant_line}
use Rattle.anb_chart.proofs.charting.write_participants.Goals as goal

pub returns-in-Err-clause-written : goal.returns-in-Err-clause-written
returns-in-Err-clause-written g c =
    let roles = c.args.roles.now in
    let i = c.loop-role.role-index in
    let x = c.role-item.result in
    let rest = flat_map participant_line (drop (i + 1) roles) in
    let left : flat_map participant_line (drop i roles) ≡ participant_line x ++ rest = ap (flat_map participant_line) (drop_next roles i x (omega arith) c.role-item.is) in
    not_all (flat_map participant_line roles) _ _ _ _ _ _ (participant_line x) rest (same_due _ _ _ _ _ _ _ left c.loop-role.invariant.due) c.in-Err.no (c.in-Err.ensures.written (participant_line x) c.participant_text.ensures)

pub loop-role-preserved : goal.loop-role-preserved
loop-role-preserved g c =
    let roles = c.args.roles.now in
    let i = c.loop-role.role-index in
    let x = c.role-item.result in
    let rest = flat_map participant_line (drop (i + 1) roles) in
    let left : flat_map participant_line (drop i roles) ≡ participant_line x ++ rest = ap (flat_map participant_line) (drop_next roles i x (omega arith) c.role-item.is) in
    record {
      due = one_part (flat_map participant_line roles) _ _ _ _ _ _ (participant_line x) rest (same_due _ _ _ _ _ _ _ left c.loop-role.invariant.due) c.in-Ok.field-0 (c.in-Ok.ensures.written (participant_line x) c.participant_text.ensures);
      kept = c.write_part.ensures.kept ∙ c.loop-role.invariant.kept;
    }
