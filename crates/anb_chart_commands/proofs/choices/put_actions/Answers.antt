use Rattle.std.proofs.Common.{◌≡◌, ◌+◌, List, ℕ, [], ◌∷◌, ◌++◌, ap, sym, ◌∙◌, append_assoc, arith}
use Rattle.anb_protocol.specs.Choices.{each_after}
use Rattle.anb_chart.proofs.Steps.{counted, ends, later, made_later, message_ours, value}
use Rattle.anb_chart_commands.specs.ChoiceCharts.{part_lines, part_text}
use Rattle.anb_chart_commands.proofs.Parting.{part_first}
use Rattle.anb_chart_commands.proofs.choices.put_actions.Goals as goal

pub put_part-requires-clause-from : goal.put_part-requires-clause-from
put_part-requires-clause-from c = (ends c.args.protocol.now c.args.actions.now c.loop-i.i c.index-actions-i.result (omega arith) c.index-actions-i.is c.requires.actions c.requires.holds).from

pub put_part-requires-clause-to : goal.put_part-requires-clause-to
put_part-requires-clause-to c = (ends c.args.protocol.now c.args.actions.now c.loop-i.i c.index-actions-i.result (omega arith) c.index-actions-i.is c.requires.actions c.requires.holds).to

pub put_part-requires-clause-term : goal.put_part-requires-clause-term
put_part-requires-clause-term c = message_ours c.args.protocol.now c.args.actions.now c.loop-i.i c.index-actions-i.result (omega arith) c.index-actions-i.is c.requires.actions c.requires.holds

pub loop-i-preserved : goal.loop-i-preserved
loop-i-preserved c =
    let p = c.args.protocol.now in
    let actions = c.args.actions.now in
    let made = c.args.made.now in
    let i = c.loop-i.i in
    let x = c.index-actions-i.result in
    let v = c.loop-i.invariant in
    let out = c.loop-i.out.items in
    let names : List (List ℕ) = c.index-made-i.result in
    let a = value p actions i x (omega arith) c.index-actions-i.is in
    let part = part_lines p c.args.from c.args.to (i + 1) a names in
    let rest = each_after (part_text p c.args.from c.args.to) (v.before ++ a ∷ []) (later p actions i x (omega arith) c.index-actions-i.is) in
    let first = part_first p c.args.from c.args.to actions i x (omega arith) c.index-actions-i.is made v.before v.many v.made names c.index-made-i.is in
    let put : c.put_part.new.out.items ≡ out ++ part = rw c.as_slice-names.ensures at c.in_ok-put_part.ensures in
    record {
      before = v.before ++ a ∷ [];
      many = counted p actions i x (omega arith) c.index-actions-i.is made v.before v.many v.made;
      made = made_later p actions i x (omega arith) c.index-actions-i.is made v.before v.many v.made;
      so_far = ap (λ l. l ++ rest) put ∙ append_assoc out part rest ∙ ap (λ l. out ++ l) (sym first) ∙ v.so_far;
    }
