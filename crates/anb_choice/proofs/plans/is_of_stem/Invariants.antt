use Rattle.std.proofs.Common.{◌≡◌, drop, map}
use Rattle.anb_protocol.specs.Views.{plan_event}
use Rattle.anb_choice.specs.Lawful.{is_of_stem}
use Rattle.anb_choice.proofs.plans.is_of_stem.Given as goal

abbrev pub invariant-loop-event : goal.invariant-loop-event
invariant-loop-event l = is_of_stem l.stem (drop l.event-index (map plan_event l.events)) ≡ is_of_stem l.stem (map plan_event l.events)
