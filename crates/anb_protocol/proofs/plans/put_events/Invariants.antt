use Rattle.std.proofs.Common.{◌≡◌, ◌++◌, map, drop}
use Rattle.anb_term.specs.Tree.{leaf}
use Rattle.anb_protocol.specs.Plans.{to_make}
use Rattle.anb_protocol.specs.Views.{plan_event}
use Rattle.anb_protocol.proofs.plans.put_events.Given as goal

abbrev pub invariant-loop-a : goal.invariant-loop-a
invariant-loop-a l = map plan_event l.events.items ++ map (λ x. to_make (leaf x)) (drop l.a-index l.names) ≡ map plan_event l.initial.events.items ++ map (λ x. to_make (leaf x)) l.names
