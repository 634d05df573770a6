use Rattle.std.proofs.Common.{◌≡◌, drop, map}
use Rattle.std.specs.List.{flat_map}
use Rattle.anb_protocol.specs.Plans.{term_in}
use Rattle.anb_protocol.specs.Seen.{marked}
use Rattle.anb_protocol.specs.Texts.{atoms_in}
use Rattle.anb_protocol.specs.Views.{plan_event}
use Rattle.anb_report.proofs.names.mark_events.Given as goal

abbrev pub invariant-loop-event : goal.invariant-loop-event
invariant-loop-event l = marked l.marks.items (flat_map (λ e. atoms_in (term_in e)) (map plan_event (drop l.event-index l.events))) ≡ marked l.initial.marks.items (flat_map (λ e. atoms_in (term_in e)) (map plan_event l.events))
