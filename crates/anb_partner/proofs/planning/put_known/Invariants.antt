use Rattle.std.proofs.Common.{◌≡◌, ◌++◌, map, drop}
use Rattle.anb_compile.specs.Emitting.{known_in}
use Rattle.anb_protocol.specs.Plans.{to_know}
use Rattle.anb_protocol.specs.Views.{plan_event}
use Rattle.anb_partner.proofs.planning.put_known.Given as goal

abbrev pub invariant-loop-event : goal.invariant-loop-event
invariant-loop-event l =
    map plan_event l.out.items ++ map to_know (known_in (map plan_event (drop l.event-index l.events)))
    ≡ map plan_event l.initial.out.items ++ map to_know (known_in (map plan_event l.events))
