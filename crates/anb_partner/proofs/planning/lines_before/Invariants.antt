use Rattle.std.proofs.Common.{◌≡◌, ◌≤◌, map, drop}
use Rattle.anb_term.specs.View.{tree_of}
use Rattle.anb_protocol.specs.Views.{plan_event}
use Rattle.anb_partner.specs.Plans.{lines_before}
use Rattle.anb_partner.proofs.planning.lines_before.Given as goal

abbrev pub invariant-loop-event : goal.invariant-loop-event
invariant-loop-event l = record {
  found : lines_before l.spare l.lines (map plan_event (drop l.event-index l.own)) (map tree_of (drop l.heard l.arrivals))
      ≡ lines_before l.spare 0 (map plan_event l.own) (map tree_of l.arrivals);
  lines : l.lines ≤ l.event-index;
  heard : l.heard ≤ l.event-index;
}
