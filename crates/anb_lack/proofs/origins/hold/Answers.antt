use Rattle.std.proofs.Common.{map, true, arith}
use Rattle.anb_term.specs.Tree.{IsFormed}
use Rattle.anb_term.proofs.Lists.{slice_get-at, slice_get-map}
use Rattle.anb_close.specs.Entries as entries
use Rattle.anb_protocol.specs.Views.{plan_event}
use Rattle.anb_lack.proofs.Having.{few_at, held_labels, label_at}
use Rattle.anb_lack.proofs.origins.hold.Goals as goal

pub learn-requires-clause-formed : goal.learn-requires-clause-formed
learn-requires-clause-formed c = label_at (IsFormed (λ o. true)) c.args.events.now c.loop-event.event-index c.event-item.result (omega arith) c.event-item.is c.requires.formed

pub learn-requires-clause-few : goal.learn-requires-clause-few
learn-requires-clause-few c =
    let events = c.args.events.now in
    let i = c.loop-event.event-index in
    let held = c.loop-event.held in
    few_at events i c.event-item.result (entries.labels_of held.closure) (omega arith) c.event-item.is (held_labels (map plan_event events) i held.closure held.from.items c.loop-event.invariant) c.requires.few

pub loop-event-preserved : goal.loop-event-preserved
loop-event-preserved c =
    let events = c.args.events.now in
    let i = c.loop-event.event-index in
    let x = c.event-item.result in
    c.in_ok-learn.ensures (map plan_event events) i (slice_get-map plan_event events i x (slice_get-at events i x (omega arith) c.event-item.is)) c.loop-event.invariant
