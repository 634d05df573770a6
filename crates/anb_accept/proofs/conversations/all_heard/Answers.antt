-- One more event.
use Rattle.std.proofs.Common.{[], ◌∷◌, map, ap, ◌∙◌, arith}
use Rattle.anb_protocol.specs.Views.{plan_event}
use Rattle.anb_term.proofs.Lists.{map-append}
use Rattle.anb_accept.specs.Conversations.{to_hear}
use Rattle.anb_accept.proofs.Steps.{both_mapped_next}
use Rattle.anb_accept.proofs.conversations.all_heard.Goals as goal

pub loop-event-preserved : goal.loop-event-preserved
loop-event-preserved c =
    both_mapped_next to_hear plan_event c.args.events.now c.loop-event.event-index c.event-item.result (map plan_event c.loop-event.out.items) (map plan_event c.push.new.self.items) (plan_event c.in_ok-event.event)
    c.loop-event.invariant (omega arith) c.event-item.is (ap (map plan_event) c.in_ok-push.ensures.items ∙ map-append plan_event c.loop-event.out.items (c.in_ok-event.event ∷ [])) c.in_ok-event.ensures
