use Rattle.std.proofs.Common.{◌≡◌, ◌+◌, [], ◌∷◌, ◌++◌, map, drop, sym, ap, ◌∙◌, arith, append_assoc}
use Rattle.anb_term.proofs.Lists.{slice_get-at}
use Rattle.anb_protocol.specs.Choices.{each_after}
use Rattle.anb_protocol.specs.Views.{action_value}
use Rattle.anb_chart.proofs.Steps.{ends, message_ours}
use Rattle.anb_explain.proofs.Lines.{counted_one, at_most_one, one_if, none_if}
use Rattle.anb_report.specs.Reporting.{is_own}
use Rattle.anb_report.specs.RoleCharts.{noted_lines, noted_text}
use Rattle.anb_report.proofs.Lines.{counted_on, noted_first, one_longer}
use Rattle.anb_report.proofs.charting.put_actions.Goals as goal
use Rattle.anb_report.proofs.charting.put_actions.Goals.{then-is_own, else-is_own}

pub put_noted-requires-clause-from : goal.put_noted-requires-clause-from
put_noted-requires-clause-from c = (ends c.args.protocol.now c.args.actions.now c.loop-i.i c.index-actions-i.result (omega arith) c.index-actions-i.is c.requires.actions c.requires.holds).from

pub put_noted-requires-clause-to : goal.put_noted-requires-clause-to
put_noted-requires-clause-to c = (ends c.args.protocol.now c.args.actions.now c.loop-i.i c.index-actions-i.result (omega arith) c.index-actions-i.is c.requires.actions c.requires.holds).to

pub put_noted-requires-clause-term : goal.put_noted-requires-clause-term
put_noted-requires-clause-term c = message_ours c.args.protocol.now c.args.actions.now c.loop-i.i c.index-actions-i.result (omega arith) c.index-actions-i.is c.requires.actions c.requires.holds

pub loop-i-preserved : goal.loop-i-preserved
loop-i-preserved c =
    let p = c.args.protocol.now in
    let role = c.args.role in
    let notes = c.args.notes.now in
    let actions = c.args.actions.now in
    let i = c.loop-i.i in
    let x = c.index-actions-i.result in
    let a = action_value x in
    let v = c.loop-i.invariant in
    let here = slice_get-at actions i x (omega arith) c.index-actions-i.is in
    let first = noted_first p actions i x here v.before v.many role notes c.loop-i.event v.own in
    let lines = noted_lines p role notes (c.loop-i.event + 1) (i + 1) a in
    let later = each_after (noted_text p role notes) (v.before ++ a ∷ []) (map action_value (drop (i + 1) actions)) in
    let out = c.loop-i.out.items in
    let events : c.if-is_own.event ≡ c.loop-i.event + counted_one (is_own role a) = elim c.if-is_own.branch [
      | then-is_own w ↦ omega (arith, w.event-is, one_if (is_own role a) (sym c.is_own.ensures ∙ w.if-is_own.true))
      | else-is_own w ↦ omega (arith, w.event-is, none_if (is_own role a) (sym c.is_own.ensures ∙ w.if-is_own.false))
    ] in
    record {
      before = v.before ++ a ∷ [];
      many = one_longer v.before a i v.many;
      own = events ∙ ap (λ n. n + counted_one (is_own role a)) v.own ∙ sym (counted_on (is_own role) v.before a);
      few = omega (arith, events, at_most_one (is_own role a), v.few);
      due = ap (λ l. l ++ later) c.in_ok-put_noted.ensures ∙ append_assoc out lines later ∙ ap (λ l. out ++ l) (sym first) ∙ v.due;
    }
