use Rattle.std.proofs.Common.{◌≡◌, ◌++◌, drop, map}
use Rattle.anb_term.specs.View.{tree_of}
use Rattle.anb_protocol.specs.Plans.{term_in}
use Rattle.anb_protocol.specs.Views.{plan_event}
use Rattle.anb_lack.proofs.roots.event_terms.Given as goal

abbrev pub invariant-loop-event : goal.invariant-loop-event
invariant-loop-event l = map tree_of l.terms.items ++ map term_in (map plan_event (drop l.event-index l.events)) ≡ map term_in (map plan_event l.events)
