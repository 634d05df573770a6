use Rattle.std.proofs.Common.{◌≡◌, ◌++◌, drop, map}
use Rattle.anb_term.specs.View.{tree_of}
use Rattle.anb_protocol.specs.Views.{plan_event}
use Rattle.anb_compile.specs.Unsent.{labels_of}
use Rattle.anb_lack.proofs.listing.label_terms.Given as goal

abbrev pub invariant-loop-event : goal.invariant-loop-event
invariant-loop-event l = map tree_of l.terms.items ++ labels_of (map plan_event (drop l.event-index l.events)) ≡ labels_of (map plan_event l.events)
