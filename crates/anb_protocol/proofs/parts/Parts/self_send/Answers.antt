use Rattle.std.proofs.Common.{◌≡◌, ◌+◌, ◌<◌, length, take, get_or, ap, sym, ◌∙◌, arith, Some}
use Rattle.std.specs.Prelude.{◌==◌}
use Rattle.std.proofs.lemmas.Bool.{eq-eqb}
use Rattle.std.proofs.lemmas.List.{length-take-le}
use Rattle.anb_protocol.specs.declared.refusals.ResolveNo.TheVariants.{SelfSend}
use Rattle.anb_protocol.specs.Choices.{refuse_if}
use Rattle.anb_protocol.specs.Protocols.{ActionValue}
use Rattle.anb_protocol.specs.Views.{action_value, value_of}
use Rattle.anb_protocol.proofs.Elements.{seen_as, within_map, unequal}
use Rattle.anb_protocol.proofs.FirstLemmas.{first_here, first_next, refuses, passes}
use Rattle.anb_protocol.proofs.parts.Parts.self_send.Goals as goal

pub returns-then-action : goal.returns-then-action
returns-then-action c =
    let acts = (value_of c.args.self.now).actions in
    let items = c.args.self.now.actions.items in
    let a = c.action-item.result in
    let i = c.loop-i.i in
    let here : i < length items = omega (arith, c.loop-i-test.true, ap length c.deref-action-items.ensures.value) in
    let is : a ≡ get_or items i a = rw c.deref-action-items.ensures.value at c.action-item.is in
    let within = within_map action_value items i here in
    ap (λ n. Some (SelfSend (n + 1))) (sym (length-take-le i acts (omega (arith, within))))
    ∙ first_here (λ before (x : ActionValue). refuse_if (x.from == x.to) (SelfSend (length before + 1))) acts i (action_value a) _ within (seen_as action_value items i a is)
    (SelfSend (length (take i acts) + 1)) (refuses _ _ (eq-eqb a.from a.to c.if-action.true)) c.loop-i.invariant

pub loop-i-preserved : goal.loop-i-preserved
loop-i-preserved c =
    let acts = (value_of c.args.self.now).actions in
    let items = c.args.self.now.actions.items in
    let a = c.action-item.result in
    let i = c.loop-i.i in
    let here : i < length items = omega (arith, c.loop-i-test.true, ap length c.deref-action-items.ensures.value) in
    let is : a ≡ get_or items i a = rw c.deref-action-items.ensures.value at c.action-item.is in
    first_next (λ before (x : ActionValue). refuse_if (x.from == x.to) (SelfSend (length before + 1))) acts i (action_value a) _ (within_map action_value items i here) (seen_as action_value items i a is)
    (passes _ _ (unequal a.from a.to c.if-action.false)) c.loop-i.invariant
