-- Of the role's plan.
use Rattle.std.proofs.Common.{◌≡◌, List, map, IfOk, sym, ap, ◌∙◌, subst}
use Rattle.anb_plays.specs.Plans.{Event}
use Rattle.anb_protocol.specs.Plays.{event_of, events_of}
use Rattle.anb_protocol.specs.Views.{plan_event}
use Rattle.anb_accept.specs.Events.{event_value}
use Rattle.anb_unify.proofs.Steps.{map_map}
use Rattle.anb_outsider.specs.Recordings.{IsRecordingIn}
use Rattle.anb_outsider.proofs.recording.recording_of.Goals as goal

pub returns-in-Ok : goal.returns-in-Ok
returns-in-Ok c =
    let p = c.args.protocol.now in
    let is : map event_value c.events.result.now ≡ events_of p c.args.role = sym (map_map event_of plan_event c.events.result.now) ∙ ap (map event_of) (c.events.ensures ∙ c.in-Ok.ensures.plan) in
    subst (λ (l : List Event). IfOk c.recording_in.result (λ r. IsRecordingIn p l r)) is c.recording_in.ensures
