use Rattle.std.proofs.Common.{◌≡◌, ℕ, ◌+◌, ◌<◌, ◌++◌, List, Bool, [], length, map, ap, sym, ◌∙◌, subst, arith, get_or}
use Rattle.std.proofs.lemmas.List.{length-map}
use Rattle.anb_protocol.specs.Choices.{each_after}
use Rattle.anb_protocol.specs.Plans.{PlanEvent, events_at, own_events}
use Rattle.anb_protocol.specs.Seen.{AreSeen}
use Rattle.anb_protocol.specs.Views.{action_value, plan_event, value_of}
use Rattle.anb_protocol.proofs.Elements.{seen_as, within_map}
use Rattle.anb_protocol.proofs.Planned.{plan_next, plan_all, seen_next}
use Rattle.anb_protocol.proofs.SeenLemmas.{seen_first}
use Rattle.anb_protocol.proofs.parts.Parts.plan.Goals as goal

pub loop-i-init : goal.loop-i-init
loop-i-init c =
    let p = value_of c.args.self.now in
    let P : List Bool → Type 0 = λ flags. AreSeen p [] flags in
    record {
      seen = subst P (sym c.in_ok-seen.ensures) (seen_first p);
      events = ap (λ (l : List PlanEvent). l ++ each_after (events_at p c.args.role) [] p.actions) c.in_ok-events.ensures;
    }

pub loop-i-preserved : goal.loop-i-preserved
loop-i-preserved c =
    let p = value_of c.args.self.now in
    let items = c.args.self.now.actions.items in
    let a = c.action-item.result in
    let i = c.loop-i.i in
    let here : i < length items = omega (arith, c.loop-i-test.true, ap length c.deref-action-items.ensures.value) in
    let is : a ≡ get_or items i a = rw c.deref-action-items.ensures.value at c.action-item.is in
    let within = within_map action_value items i here in
    let stands = seen_as action_value items i a is in
    let put = c.in_ok-put_events.ensures ∙ ap (λ (ns : List ℕ). map plan_event c.loop-i.events.items ++ own_events c.args.role (i + 1) ns (action_value a)) c.deref.ensures.value in
    record {
      seen = seen_next p p.actions i (action_value a) c.loop-i.seen.items c.made_names.new.seen.items within stands c.loop-i.invariant.seen c.in_ok-names.ensures.marks;
      events = plan_next p c.args.role p.actions i (action_value a) c.loop-i.seen.items c.in_ok-names.names.items (map plan_event c.loop-i.events.items) _ _ within stands c.loop-i.invariant.seen c.in_ok-names.ensures.made put c.loop-i.invariant.events;
    }

pub returns : goal.returns
returns c =
    let p = value_of c.args.self.now in
    let items = c.args.self.now.actions.items in
    c.new.ensures ∙ plan_all p c.args.role c.loop-i.i (map plan_event c.loop-i.events.items) (omega (arith, c.loop-i-test.false, ap length c.deref-action-items.ensures.value, length-map items action_value)) c.loop-i.invariant.events
