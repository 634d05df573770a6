use Rattle.std.proofs.Common.{◌++◌, true, sym, ap, ◌∙◌}
use Rattle.anb_term.specs.Tree.{IsFormed}
use Rattle.anb_close.specs.Entries as entries
use Rattle.anb_compile.specs.Unsent.{label_of}
use Rattle.anb_protocol.specs.Views.{plan_event}
use Rattle.anb_draws.proofs.Events.{event_few, event_formed, labels_next}
use Rattle.anb_draws.proofs.closing.closed.Goals as goal

pub learn-requires-clause-formed : goal.learn-requires-clause-formed
learn-requires-clause-formed c = event_formed c.args.events.now c.loop-event.event-index c.event-item.result c.loop-event-test.true c.event-item.is (IsFormed (λ o. true)) c.requires.formed

pub learn-requires-clause-few : goal.learn-requires-clause-few
learn-requires-clause-few c =
    event_few c.args.events.now c.loop-event.event-index c.event-item.result c.loop-event-test.true c.event-item.is (entries.labels_of c.loop-event.closure) c.loop-event.invariant c.requires.few

pub loop-event-preserved : goal.loop-event-preserved
loop-event-preserved c =
    c.in_ok-learn.ensures ∙ ap (λ l. l ++ label_of (plan_event c.event-item.result)) c.loop-event.invariant
    ∙ sym (labels_next c.args.events.now c.loop-event.event-index c.event-item.result c.loop-event-test.true c.event-item.is)
