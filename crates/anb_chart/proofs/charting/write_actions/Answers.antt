use Rattle.std.proofs.Common.{◌+◌, List, ℕ, [], ◌∷◌, ◌++◌, ◌∙◌, arith}
use Rattle.anb_protocol.specs.Choices.{each_after}
use Rattle.anb_text.proofs.Written.{not_all, one_part, same_due}
use Rattle.anb_chart.specs.Charts.{action_lines, action_text}
use Rattle.anb_chart.proofs.Steps.{value, ends, message_ours, counted, made_later, lines_first}
use Rattle.anb_chart.proofs.charting.write_actions.Goals as goal

pub action_text-lines-requires-clause-from : goal.action_text-lines-requires-clause-from
action_text-lines-requires-clause-from g c = (ends c.args.protocol.now c.args.actions.now c.loop-i.i c.index-actions-i.result (omega arith) c.index-actions-i.is c.requires.actions c.requires.holds).from

pub action_text-lines-requires-clause-to : goal.action_text-lines-requires-clause-to
action_text-lines-requires-clause-to g c = (ends c.args.protocol.now c.args.actions.now c.loop-i.i c.index-actions-i.result (omega arith) c.index-actions-i.is c.requires.actions c.requires.holds).to

pub action_text-lines-requires-clause-term : goal.action_text-lines-requires-clause-term
action_text-lines-requires-clause-term g c = message_ours c.args.protocol.now c.args.actions.now c.loop-i.i c.index-actions-i.result (omega arith) c.index-actions-i.is c.requires.actions c.requires.holds

pub returns-in-Err-clause-written : goal.returns-in-Err-clause-written
returns-in-Err-clause-written g c =
    let p = c.args.protocol.now in
    let actions = c.args.actions.now in
    let made = c.args.made.now in
    let i = c.loop-i.i in
    let x = c.index-actions-i.result in
    let v = c.loop-i.invariant in
    let names : List (List ℕ) = c.index-made-i.result in
    let first = lines_first p actions i x (omega arith) c.index-actions-i.is made v.before v.many v.made names c.index-made-i.is in
    let part = action_lines p (i + 1) (value p actions i x (omega arith) c.index-actions-i.is) names in
    not_all (each_after (action_text p) [] p.actions) _ _ _ _ _ _ part _ (same_due _ _ _ _ _ _ _ first v.due) c.in-Err.no (c.in-Err.ensures.written part (rw c.as_slice.ensures at c.action_text-lines.ensures))

pub loop-i-preserved : goal.loop-i-preserved
loop-i-preserved g c =
    let p = c.args.protocol.now in
    let actions = c.args.actions.now in
    let made = c.args.made.now in
    let i = c.loop-i.i in
    let x = c.index-actions-i.result in
    let v = c.loop-i.invariant in
    let names : List (List ℕ) = c.index-made-i.result in
    let first = lines_first p actions i x (omega arith) c.index-actions-i.is made v.before v.many v.made names c.index-made-i.is in
    let a = value p actions i x (omega arith) c.index-actions-i.is in
    let part = action_lines p (i + 1) a names in
    record {
      before = v.before ++ a ∷ [];
      many = counted p actions i x (omega arith) c.index-actions-i.is made v.before v.many v.made;
      made = made_later p actions i x (omega arith) c.index-actions-i.is made v.before v.many v.made;
      due = one_part (each_after (action_text p) [] p.actions) _ _ _ _ _ _ part _ (same_due _ _ _ _ _ _ _ first v.due) c.in-Ok.field-0 (c.in-Ok.ensures.written part (rw c.as_slice.ensures at c.action_text-lines.ensures));
      kept = c.write_part.ensures.kept ∙ v.kept;
    }
