use Rattle.std.proofs.Common.{◌≡◌, map, drop}
use Rattle.std.specs.List.{list_any}
use Rattle.anb_term.specs.View.{tree_of}
use Rattle.anb_protocol.specs.Views.{plan_event}
use Rattle.anb_verdict.specs.Others.{knows}
use Rattle.anb_verdict.proofs.others.is_known.Given as goal

abbrev pub invariant-loop-event : goal.invariant-loop-event
invariant-loop-event l = list_any (knows (tree_of l.t)) (map plan_event (drop l.event-index l.events)) ≡ list_any (knows (tree_of l.t)) (map plan_event l.events)
