use Rattle.std.proofs.Common.{◌≤◌, map, arith}
use Rattle.anb_lemmas.proofs.Each.{each_holds}
use Rattle.anb_term.specs.Tree.{tree_size}
use Rattle.anb_protocol.specs.Plans.{term_in}
use Rattle.anb_protocol.specs.Views.{plan_event}
use Rattle.anb_partner.proofs.Planned.{small_at}
use Rattle.anb_partner.proofs.planning.is_small.Goals as goal

pub label_size-count-requires : goal.label_size-count-requires
label_size-count-requires c = small_at c.args.events.now c.loop-event.event-index c.event-item.result (omega arith) c.event-item.is c.requires

pub overflow_add-count : goal.overflow_add-count
overflow_add-count c = omega (arith, c.loop-event.invariant.few, c.label_size-count.ensures.most)
