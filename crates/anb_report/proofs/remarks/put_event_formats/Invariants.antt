use Rattle.std.proofs.Common.{◌≡◌, ◌++◌, drop, map}
use Rattle.std.specs.List.{flat_map}
use Rattle.anb_protocol.specs.Plans.{term_in}
use Rattle.anb_protocol.specs.Views.{plan_event}
use Rattle.anb_report.specs.Remarks.{formats_in}
use Rattle.anb_report.proofs.remarks.put_event_formats.Given as goal

abbrev pub invariant-loop-event : goal.invariant-loop-event
invariant-loop-event l = l.out.items ++ flat_map (λ e. formats_in (term_in e)) (map plan_event (drop l.event-index l.events)) ≡ l.initial.out.items ++ flat_map (λ e. formats_in (term_in e)) (map plan_event l.events)
