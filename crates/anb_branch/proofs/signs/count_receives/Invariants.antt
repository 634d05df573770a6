use Rattle.std.proofs.Common.{◌≡◌, ◌≤◌, ◌+◌, map, drop}
use Rattle.anb_protocol.specs.Views.{plan_event}
use Rattle.anb_branch.specs.Taken.{count_receives}
use Rattle.anb_branch.proofs.signs.count_receives.Given as goal

abbrev pub invariant-loop-event : goal.invariant-loop-event
invariant-loop-event l = record {
  few : l.count ≤ l.event-index;
  value : l.count + count_receives (map plan_event (drop l.event-index l.events)) ≡ count_receives (map plan_event l.events);
}
