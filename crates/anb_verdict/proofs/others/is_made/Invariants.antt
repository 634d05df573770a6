use Rattle.std.proofs.Common.{◌≡◌, map, drop}
use Rattle.std.specs.List.{list_any}
use Rattle.anb_term.specs.View.{tree_of}
use Rattle.anb_protocol.specs.Views.{plan_event}
use Rattle.anb_verdict.specs.Others.{makes}
use Rattle.anb_verdict.proofs.others.is_made.Given as goal

abbrev pub invariant-loop-event : goal.invariant-loop-event
invariant-loop-event l = list_any (makes (tree_of l.t)) (map plan_event (drop l.event-index l.events)) ≡ list_any (makes (tree_of l.t)) (map plan_event l.events)
