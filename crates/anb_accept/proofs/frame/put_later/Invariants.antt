use Rattle.std.proofs.Common.{◌≡◌, ◌++◌, map, take}
use Rattle.anb_term.specs.View.{tree_of}
use Rattle.anb_accept.specs.Taking.{later}
use Rattle.anb_accept.specs.Equations.{later_heard}
use Rattle.anb_accept.specs.Events.{event_value}
use Rattle.anb_accept.proofs.frame.put_later.Given as goal

abbrev pub invariant-loop-event : goal.invariant-loop-event
invariant-loop-event l = record {
  terms : map tree_of l.terms.items ≡ map tree_of l.initial.terms.items ++ later (map event_value (take l.event-index l.events));
  heard : l.heard.items ≡ l.initial.heard.items ++ later_heard (map event_value (take l.event-index l.events));
}
