use Rattle.std.proofs.Common.{◌≡◌, ◌≤◌, ◌+◌, map, drop}
use Rattle.std.specs.Prelude.{count_by}
use Rattle.anb_protocol.specs.Plans.{is_to_make}
use Rattle.anb_protocol.specs.Views.{plan_event}
use Rattle.anb_partner.proofs.valuing.count_made.Given as goal

abbrev pub invariant-loop-event : goal.invariant-loop-event
invariant-loop-event l = record {
  counted : l.count + count_by is_to_make (map plan_event (drop l.event-index l.events)) ≡ count_by is_to_make (map plan_event l.events);
  most : l.count ≤ l.event-index;
}
