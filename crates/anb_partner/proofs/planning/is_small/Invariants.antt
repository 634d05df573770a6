use Rattle.std.proofs.Common.{◌≡◌, ◌+◌, ◌≤◌, map, drop}
use Rattle.anb_term.specs.Tree.{nodes}
use Rattle.anb_compile.specs.Unsent.{labels_of}
use Rattle.anb_protocol.specs.Views.{plan_event}
use Rattle.anb_partner.proofs.planning.is_small.Given as goal

abbrev pub invariant-loop-event : goal.invariant-loop-event
invariant-loop-event l = record {
  counted : l.count + nodes (labels_of (map plan_event (drop l.event-index l.events))) ≡ nodes (labels_of (map plan_event l.events));
  few : l.count ≤ 65535;
}
