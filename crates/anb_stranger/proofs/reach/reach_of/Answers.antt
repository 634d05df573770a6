-- All events of the plan.
use Rattle.std.proofs.Common.{◌≡◌, List, length, map, IfOk, sym, ap, ◌∙◌, subst, arith}
use Rattle.std.proofs.lemmas.List.{take_all}
use Rattle.anb_plays.specs.Plans.{Event}
use Rattle.anb_protocol.specs.Plans.{plan_of}
use Rattle.anb_protocol.specs.Plays.{event_of, events_of}
use Rattle.anb_protocol.specs.Views.{plan_event}
use Rattle.anb_accept.specs.Events.{event_value}
use Rattle.anb_unify.proofs.Steps.{map_map}
use Rattle.anb_stranger.specs.Reaching.{IsReachIn}
use Rattle.anb_stranger.proofs.reach.reach_of.Goals as goal

pub reach_in-requires : goal.reach_in-requires
reach_in-requires c =
    let plan = plan_of c.args.protocol.now c.args.role in
    let is : map plan_event c.events.result.now ≡ plan = c.events.ensures ∙ c.in-Ok.ensures.plan in
    record { role = c.args.role; many = length plan; is = is ∙ sym (take_all (length plan) plan (omega arith)) }

pub returns-in-Ok : goal.returns-in-Ok
returns-in-Ok c =
    let p = c.args.protocol.now in
    let is : map event_value c.events.result.now ≡ events_of p c.args.role = sym (map_map event_of plan_event c.events.result.now) ∙ ap (map event_of) (c.events.ensures ∙ c.in-Ok.ensures.plan) in
    subst (λ (l : List Event). IfOk c.reach_in.result (λ r. IsReachIn p l r)) is c.reach_in.ensures
