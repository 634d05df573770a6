use Rattle.std.proofs.Common.{refl, arith}
use Rattle.anb_choice.proofs.Events.{told_here, told_later}
use Rattle.anb_choice.proofs.plans.is_of_stem.Goals as goal

pub returns-in-Know : goal.returns-in-Know
returns-in-Know c = told_here c.args.stem c.args.events.now c.loop-event.event-index c.event-item.result _ (omega arith) c.event-item.is (λ es. rw c.in-Know.is refl) c.loop-event.invariant

pub returns-in-Send : goal.returns-in-Send
returns-in-Send c = told_here c.args.stem c.args.events.now c.loop-event.event-index c.event-item.result _ (omega arith) c.event-item.is (λ es. rw c.in-Send.is refl) c.loop-event.invariant

pub returns-in-Recv : goal.returns-in-Recv
returns-in-Recv c = told_here c.args.stem c.args.events.now c.loop-event.event-index c.event-item.result _ (omega arith) c.event-item.is (λ es. rw c.in-Recv.is refl) c.loop-event.invariant

pub loop-event-preserved : goal.loop-event-preserved
loop-event-preserved c = told_later c.args.stem c.args.events.now c.loop-event.event-index c.event-item.result (omega arith) c.event-item.is (λ es. rw c.in-Fresh.is refl) c.loop-event.invariant
