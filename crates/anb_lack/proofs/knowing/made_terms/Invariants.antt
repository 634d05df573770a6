use Rattle.std.proofs.Common.{◌≡◌, ◌++◌, drop, map}
use Rattle.std.specs.List.{flat_map}
use Rattle.anb_term.specs.View.{tree_of}
use Rattle.anb_protocol.specs.Views.{plan_event}
use Rattle.anb_lack.specs.Roots.{made_at}
use Rattle.anb_lack.proofs.knowing.made_terms.Given as goal

abbrev pub invariant-loop-event : goal.invariant-loop-event
invariant-loop-event l = map tree_of l.terms.items ++ flat_map made_at (map plan_event (drop l.event-index l.events)) ≡ flat_map made_at (map plan_event l.events)
