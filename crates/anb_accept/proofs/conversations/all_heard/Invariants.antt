use Rattle.std.proofs.Common.{◌≡◌, map, take}
use Rattle.anb_protocol.specs.Views.{plan_event}
use Rattle.anb_accept.specs.Conversations.{to_hear}
use Rattle.anb_accept.proofs.conversations.all_heard.Given as goal

abbrev pub invariant-loop-event : goal.invariant-loop-event
invariant-loop-event l = map plan_event l.out.items ≡ map to_hear (map plan_event (take l.event-index l.events))
