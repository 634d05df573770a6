use Rattle.std.proofs.Common.{sym, arith}
use Rattle.std.proofs.lemmas.Bool.{eq-eqb}
use Rattle.anb_protocol.specs.Views.{action_value}
use Rattle.anb_term.proofs.Lists.{slice_get-at}
use Rattle.anb_report.specs.Remarks.{is_to}
use Rattle.anb_report.proofs.Items.{any_at}
use Rattle.anb_report.proofs.remarks.receives.Goals as goal

pub returns-then-action-role : goal.returns-then-action-role
returns-then-action-role c =
    let actions = c.args.actions.now in
    let i = c.loop-action.action-index in
    let x = c.action-item.result in
    sym (any_at action_value (is_to c.args.role) actions i x (slice_get-at actions i x (omega arith) c.action-item.is) (eq-eqb x.to c.args.role c.if-action-role.true))
