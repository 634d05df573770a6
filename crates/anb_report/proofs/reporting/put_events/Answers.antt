use Rattle.std.proofs.Common.{◌≡◌, ◌+◌, List, ℕ, [], ◌∷◌, ◌++◌, map, drop, sym, ap, ◌∙◌, arith, append_assoc}
use Rattle.anb_term.proofs.Lists.{slice_get-at}
use Rattle.anb_protocol.specs.Choices.{each_after}
use Rattle.anb_protocol.specs.Views.{action_value}
use Rattle.anb_chart.proofs.Steps.{message_ours}
use Rattle.anb_explain.proofs.Lines.{counted_one, at_most_one, one_if, none_if}
use Rattle.anb_report.specs.Reporting.{action_lines, action_text, is_own}
use Rattle.anb_report.proofs.Lines.{counted_on, lines_first, made_on, many_on}
use Rattle.anb_report.proofs.reporting.put_events.Goals as goal
use Rattle.anb_report.proofs.reporting.put_events.Goals.{then-is_own, else-is_own}

pub put_action-requires : goal.put_action-requires
put_action-requires c = message_ours c.args.protocol.now c.args.actions.now c.loop-i.i c.index-actions-i.result (omega arith) c.index-actions-i.is c.requires.actions c.requires.holds

pub loop-i-preserved : goal.loop-i-preserved
loop-i-preserved c =
    let p = c.args.protocol.now in
    let role = c.args.role in
    let notes = c.args.notes.now in
    let actions = c.args.actions.now in
    let made = c.args.made.now in
    let i = c.loop-i.i in
    let x = c.index-actions-i.result in
    let a = action_value x in
    let v = c.loop-i.invariant in
    let names : List (List ℕ) = c.index-made-i.result in
    let here = slice_get-at actions i x (omega arith) c.index-actions-i.is in
    let first = lines_first p actions i x here made v.before v.many v.made role notes c.loop-i.event names v.own c.index-made-i.is in
    let lines = action_lines p role notes (c.loop-i.event + 1) (i + 1) a names in
    let later = each_after (action_text p role notes) (v.before ++ a ∷ []) (map action_value (drop (i + 1) actions)) in
    let out = c.loop-i.out.items in
    let put = rw c.as_slice.ensures at c.in_ok-put_action.ensures in
    let events : c.if-is_own.event ≡ c.loop-i.event + counted_one (is_own role a) = elim c.if-is_own.branch [
      | then-is_own w ↦ omega (arith, w.event-is, one_if (is_own role a) (sym c.is_own.ensures ∙ w.if-is_own.true))
      | else-is_own w ↦ omega (arith, w.event-is, none_if (is_own role a) (sym c.is_own.ensures ∙ w.if-is_own.false))
    ] in
    record {
      before = v.before ++ a ∷ [];
      many = many_on p actions i x here made v.before v.many v.made;
      own = events ∙ ap (λ n. n + counted_one (is_own role a)) v.own ∙ sym (counted_on (is_own role) v.before a);
      few = omega (arith, events, at_most_one (is_own role a), v.few);
      made = made_on p actions i x here made v.before v.many v.made;
      due = ap (λ l. l ++ later) put ∙ append_assoc out lines later ∙ ap (λ l. out ++ l) (sym first) ∙ v.due;
    }
