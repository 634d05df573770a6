use Rattle.std.proofs.Common.{◌≡◌, ◌++◌, map}
use Rattle.std.specs.List.{flat_map, range_with_len}
use Rattle.anb_compile.specs.Emitting.{known_in}
use Rattle.anb_protocol.specs.Plans.{to_know, to_receive}
use Rattle.anb_protocol.specs.Views.{plan_event}
use Rattle.anb_partner.specs.Plans.{handed_by}
use Rattle.anb_partner.proofs.planning.plan_of_partner.Given as goal

abbrev pub invariant-loop-other : goal.invariant-loop-other
invariant-loop-other l =
    map plan_event l.events.items
    ≡ map to_know (known_in (map plan_event l.own)) ++ map (to_receive 0) (flat_map (handed_by l.p l.role) (range_with_len 0 l.other))
