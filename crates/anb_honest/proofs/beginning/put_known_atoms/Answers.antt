use Rattle.std.proofs.Common.{arith}
use Rattle.anb_honest.proofs.Valuing.{atoms_next}
use Rattle.anb_honest.proofs.beginning.put_known_atoms.Goals as goal

pub loop-event-preserved : goal.loop-event-preserved
loop-event-preserved c =
    atoms_next c.events-event-items.result.now c.loop-event.event-index c.event-item.result (omega arith) c.event-item.is c.args.atoms.now.items c.loop-event.atoms.items c.put_atoms_of.new.atoms.items
    c.loop-event.invariant c.in_ok-put_atoms_of.ensures
