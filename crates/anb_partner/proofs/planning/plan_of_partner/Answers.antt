use Rattle.std.proofs.Common.{◌≡◌, ℕ, List, map, ◌++◌, length, sym, ap, ◌∙◌, arith}
use Rattle.std.specs.List.{flat_map, range_with_len}
use Rattle.anb_compile.specs.Emitting.{known_in}
use Rattle.anb_protocol.specs.Plans.{to_know, to_receive}
use Rattle.anb_protocol.specs.Views.{plan_event}
use Rattle.anb_partner.specs.Plans.{handed_by}
use Rattle.anb_partner.proofs.Ranges.{placed_next}
use Rattle.anb_partner.proofs.planning.plan_of_partner.Goals as goal

pub overflow_cast-other-end : goal.overflow_cast-other-end
overflow_cast-other-end c = let most = c.requires.holds.roles in omega (arith, most, ap length c.roles.ensures)

pub loop-other-preserved : goal.loop-other-preserved
loop-other-preserved c =
    placed_next (to_receive 0) (handed_by c.args.p.now c.args.role) (map to_know (known_in (map plan_event c.args.own.now))) (map plan_event c.loop-other.events.items) (map plan_event c.put_other.new.out.items)
    c.loop-other.other c.loop-other.invariant c.in_ok-put_other.ensures
