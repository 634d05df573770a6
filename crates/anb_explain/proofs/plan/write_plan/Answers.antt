use Rattle.std.proofs.Common.{◌≡◌, ◌+◌, [], ◌∷◌, ◌++◌, map, drop, sym, ap, ◌∙◌, arith}
use Rattle.std.specs.Prelude.{count_by}
use Rattle.anb_lemmas.proofs.Each.{each_got}
use Rattle.anb_lemmas.proofs.Lists.{drop_at_got}
use Rattle.anb_term.proofs.Lists.{slice_get-map, slice_get-at}
use Rattle.anb_protocol.specs.Choices.{each_after}
use Rattle.anb_protocol.specs.Plans.{term_in}
use Rattle.anb_protocol.specs.Texts.{IsTermOf}
use Rattle.anb_protocol.specs.Views.{plan_event}
use Rattle.anb_explain.specs.Explained.{has_label, is_message, event_line, event_words, line, plan_text, spaced}
use Rattle.anb_text.proofs.Written.{not_all, one_part, same_due}
use Rattle.anb_explain.proofs.Lines.{counted_one, at_most_one, one_if, none_if, counted_on}
use Rattle.anb_explain.proofs.plan.write_plan.Goals as goal
use Rattle.anb_explain.proofs.plan.write_plan.Goals.{then-has_label, else-has_label, then-is_message, else-is_message}

pub event_text-requires-clause-term : goal.event_text-requires-clause-term
event_text-requires-clause-term g c =
    let events = c.args.events.now in
    let i = c.loop-event.event-index in
    let x = c.event-item.result in
    each_got (λ e. IsTermOf c.args.protocol.now (term_in e)) (map plan_event events) i (plan_event x) c.requires (slice_get-map plan_event events i x (slice_get-at events i x (omega arith) c.event-item.is))

pub returns-in-Err-clause-written : goal.returns-in-Err-clause-written
returns-in-Err-clause-written g c =
    let events = c.args.events.now in
    let i = c.loop-event.event-index in
    let x = c.event-item.result in
    let e = plan_event x in
    let v = c.loop-event.invariant in
    let p = c.args.protocol.now in
    let rest = map plan_event (drop (i + 1) events) in
    let left : map plan_event (drop i events) ≡ e ∷ rest = ap (map plan_event) (drop_at_got events i x (slice_get-at events i x (omega arith) c.event-item.is)) in
    let part = line (spaced (event_words p c.loop-event.labels c.loop-event.messages e)) in
    let said : event_line p v.before e ≡ part = ap (λ n. line (spaced (event_words p n (count_by is_message v.before) e))) (sym v.labels) ∙ ap (λ n. line (spaced (event_words p c.loop-event.labels n e))) (sym v.messages) in
    let first : each_after (event_line p) v.before (map plan_event (drop i events)) ≡ part ++ each_after (event_line p) (v.before ++ e ∷ []) rest =
    ap (each_after (event_line p) v.before) left ∙ ap (λ l. l ++ each_after (event_line p) (v.before ++ e ∷ []) rest) said in
    not_all (plan_text p (map plan_event events)) _ _ _ _ _ _ part (each_after (event_line p) (v.before ++ e ∷ []) rest) (same_due _ _ _ _ _ _ _ first v.due) c.in-Err.no (c.in-Err.ensures.written part c.event_text.ensures)

pub loop-event-preserved : goal.loop-event-preserved
loop-event-preserved g c =
    let events = c.args.events.now in
    let i = c.loop-event.event-index in
    let x = c.event-item.result in
    let e = plan_event x in
    let v = c.loop-event.invariant in
    let p = c.args.protocol.now in
    let rest = map plan_event (drop (i + 1) events) in
    let left : map plan_event (drop i events) ≡ e ∷ rest = ap (map plan_event) (drop_at_got events i x (slice_get-at events i x (omega arith) c.event-item.is)) in
    let labels : c.if-has_label.labels ≡ c.loop-event.labels + counted_one (has_label e) = elim c.if-has_label.branch [
      | then-has_label w ↦ omega (arith, w.labels-is, one_if (has_label e) (sym c.has_label.ensures ∙ w.if-has_label.true))
      | else-has_label w ↦ omega (arith, w.labels-is, none_if (has_label e) (sym c.has_label.ensures ∙ w.if-has_label.false))
    ] in
    let messages : c.if-is_message.messages ≡ c.loop-event.messages + counted_one (is_message e) = elim c.if-is_message.branch [
      | then-is_message w ↦ omega (arith, w.messages-is, one_if (is_message e) (sym c.is_message.ensures ∙ w.if-is_message.true))
      | else-is_message w ↦ omega (arith, w.messages-is, none_if (is_message e) (sym c.is_message.ensures ∙ w.if-is_message.false))
    ] in
    let part = line (spaced (event_words p c.loop-event.labels c.loop-event.messages e)) in
    let said : event_line p v.before e ≡ part = ap (λ n. line (spaced (event_words p n (count_by is_message v.before) e))) (sym v.labels) ∙ ap (λ n. line (spaced (event_words p c.loop-event.labels n e))) (sym v.messages) in
    let first : each_after (event_line p) v.before (map plan_event (drop i events)) ≡ part ++ each_after (event_line p) (v.before ++ e ∷ []) rest =
    ap (each_after (event_line p) v.before) left ∙ ap (λ l. l ++ each_after (event_line p) (v.before ++ e ∷ []) rest) said in
    record {
      before = v.before ++ e ∷ [];
      labels = labels ∙ ap (λ n. n + counted_one (has_label e)) v.labels ∙ sym (counted_on has_label v.before e);
      messages = messages ∙ ap (λ n. n + counted_one (is_message e)) v.messages ∙ sym (counted_on is_message v.before e);
      few_labels = omega (arith, labels, at_most_one (has_label e), v.few_labels);
      few_messages = omega (arith, messages, at_most_one (is_message e), v.few_messages);
      due = one_part (plan_text p (map plan_event events)) _ _ _ _ _ _ part (each_after (event_line p) (v.before ++ e ∷ []) rest) (same_due _ _ _ _ _ _ _ first v.due) c.in-Ok.field-0 (c.in-Ok.ensures.written part c.event_text.ensures);
      kept = c.write_part.ensures.kept ∙ v.kept;
    }
