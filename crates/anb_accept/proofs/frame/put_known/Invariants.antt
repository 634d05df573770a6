use Rattle.std.proofs.Common.{◌≡◌, ◌++◌, map, take, false}
use Rattle.anb_term.specs.View.{tree_of}
use Rattle.anb_plays.specs.Plans.{known}
use Rattle.anb_accept.specs.Events.{event_value}
use Rattle.anb_accept.proofs.frame.put_known.Given as goal

abbrev pub invariant-loop-event : goal.invariant-loop-event
invariant-loop-event l = record {
  terms : map tree_of l.terms.items ≡ map tree_of l.initial.terms.items ++ known (map event_value (take l.event-index l.events));
  heard : l.heard.items ≡ l.initial.heard.items ++ map (λ t. false) (known (map event_value (take l.event-index l.events)));
}
