use Rattle.std.proofs.Common.{◌≡◌, ◌++◌, map, drop}
use Rattle.anb_accept.specs.Events.{event_value}
use Rattle.anb_outsider.specs.Recordings.{drawn}
use Rattle.anb_outsider.proofs.drawing.drawn.Given as goal

abbrev pub invariant-loop-event : goal.invariant-loop-event
invariant-loop-event l = l.names.items ++ drawn (map event_value (drop l.event-index l.events)) ≡ drawn (map event_value l.events)
