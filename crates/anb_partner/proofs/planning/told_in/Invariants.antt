use Rattle.std.proofs.Common.{◌≡◌, ◌++◌, map}
use Rattle.anb_plays.specs.Honest.{heard}
use Rattle.anb_term.specs.View.{tree_of}
use Rattle.anb_protocol.specs.Plays.{event_of}
use Rattle.anb_protocol.specs.Views.{plan_event}
use Rattle.anb_partner.specs.Plans.{said}
use Rattle.anb_partner.proofs.planning.told_in.Given as goal

abbrev pub invariant-loop-event : goal.invariant-loop-event
invariant-loop-event l = record {
  heard : map tree_of l.arrivals.items ++ heard (map event_of (map plan_event l.event-iterator.rest.items)) ≡ heard (map event_of l.fn.plan);
  said : map tree_of l.messages.items ++ said (map event_of (map plan_event l.event-iterator.rest.items)) ≡ said (map event_of l.fn.plan);
}
