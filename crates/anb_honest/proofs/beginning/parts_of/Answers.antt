use Rattle.std.proofs.Common.{arith}
use Rattle.anb_honest.proofs.Valuing.{turns_next}
use Rattle.anb_honest.proofs.beginning.parts_of.Goals as goal

pub loop-event-preserved : goal.loop-event-preserved
loop-event-preserved c = λ role.
    turns_next c.events-event-items.result.now c.loop-event.event-index c.event-item.result (omega arith) c.event-item.is role c.loop-event.parts.items c.put_part.new.parts.items
    (c.loop-event.invariant role) (c.in_ok-put_part.ensures role)
