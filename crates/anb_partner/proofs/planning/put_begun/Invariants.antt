use Rattle.std.proofs.Common.{◌≡◌, ◌++◌, map}
use Rattle.anb_protocol.specs.Plans.{to_receive}
use Rattle.anb_protocol.specs.Views.{plan_event}
use Rattle.anb_partner.specs.Plans.{begins}
use Rattle.anb_partner.proofs.planning.put_begun.Given as goal

abbrev pub invariant-loop-event : goal.invariant-loop-event
invariant-loop-event l =
    map plan_event l.out.items ++ map (to_receive 0) (begins (map plan_event l.event-iterator.rest.items))
    ≡ map plan_event l.initial.out.items ++ map (to_receive 0) (begins l.fn.plan)
