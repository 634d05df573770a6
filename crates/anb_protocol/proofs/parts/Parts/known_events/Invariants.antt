use Rattle.std.proofs.Common.{◌≡◌, ◌++◌, map, drop}
use Rattle.anb_term.specs.View.{tree_of}
use Rattle.anb_protocol.specs.Plans.{to_know}
use Rattle.anb_protocol.specs.Views.{plan_event}
use Rattle.anb_protocol.proofs.parts.Parts.known_events.Given as goal

abbrev pub invariant-loop-term : goal.invariant-loop-term
invariant-loop-term l = map plan_event l.events.items ++ map to_know (map tree_of (drop l.term-index l.terms)) ≡ map to_know (map tree_of l.terms)
