use Rattle.std.proofs.Common.{◌≡◌, ◌+◌, Some, true, take, sym, ◌∙◌, subst, arith}
use Rattle.std.specs.Prelude.{count_by, slice_get}
use Rattle.anb_protocol.specs.Views.{action_value}
use Rattle.anb_protocol.specs.declared.parts.Action.{Action}
use Rattle.anb_term.proofs.Lists.{slice_get-at}
use Rattle.anb_verdict.specs.Places.{is_own}
use Rattle.anb_probe_commands.proofs.Preparing.{line_refused}
use Rattle.anb_probe_commands.proofs.cases.honest_blocked.Goals as goal

pub returns-then-lines-line : goal.returns-then-lines-line
returns-then-lines-line c =
    let actions = c.messages-actions.result.now in
    let i = c.loop-i.i in
    let x : Action = c.index-actions-i.result in
    let y : Action = c.index-actions-i-then-lines-line.result in
    let one : slice_get actions i ≡ Some x = slice_get-at actions i x (omega (arith, c.loop-i-test.true)) c.index-actions-i.is in
    let two : slice_get actions i ≡ Some y = slice_get-at actions i y (omega (arith, c.loop-i-test.true)) c.index-actions-i-then-lines-line.is in
    let both : Some x ≡ Some y = sym one ∙ two in
    let same : x ≡ y = cc in
    let own : is_own c.args.role (action_value y) ≡ true = subst (λ (b : Action). is_own c.args.role (action_value b) ≡ true) same (sym c.is_own.ensures ∙ c.if-is_own.true) in
    let counted : count_by (λ (b : Action). is_own c.args.role (action_value b)) (take i actions) + 1 ≡ c.args.line = omega (arith, c.loop-i.invariant, c.if-lines-line.true) in
    line_refused c.args.p.now c.args.role c.args.line i actions y c.messages-actions.ensures.actions two own counted c.cannot_send.result c.cannot_send.ensures
