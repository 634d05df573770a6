use Rattle.std.proofs.Common.{◌≡◌, ◌+◌, ◌≤◌, map, drop}
use Rattle.anb_accept.specs.Events.{event_value}
use Rattle.anb_outsider.specs.Recordings.{messages_in}
use Rattle.anb_outsider.proofs.recording.count_messages.Given as goal

abbrev pub invariant-loop-event : goal.invariant-loop-event
invariant-loop-event l = record {
  due : l.count + messages_in (map event_value (drop l.event-index l.events)) ≡ messages_in (map event_value l.events);
  few : l.count ≤ l.event-index;
}
