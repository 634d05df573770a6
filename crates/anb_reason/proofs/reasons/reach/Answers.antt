use Rattle.std.proofs.Common.{map, arith}
use Rattle.anb_lemmas.proofs.Each.{each_got}
use Rattle.anb_term.proofs.Lists.{slice_get-at, slice_get-map}
use Rattle.anb_close.specs.Entries as entries
use Rattle.anb_protocol.specs.Plans.{term_in}
use Rattle.anb_protocol.specs.Texts.{IsTermOf}
use Rattle.anb_protocol.specs.Views.{plan_event}
use Rattle.anb_reason.proofs.Refusing.{found_event}
use Rattle.anb_reason.proofs.reasons.reach.Goals as goal

pub find_label-requires-clause-term : goal.find_label-requires-clause-term
find_label-requires-clause-term c =
    let events = c.args.events.now in
    let i = c.loop-event.event-index in
    let x = c.event-item.result in
    each_got (λ e. IsTermOf c.args.p.now (term_in e)) (map plan_event events) i (plan_event x) c.requires.terms (slice_get-map plan_event events i x (slice_get-at events i x (omega arith) c.event-item.is))

pub loop-event-preserved : goal.loop-event-preserved
loop-event-preserved c protocol =
    found_event c.args.p.now (entries.labels_of c.args.closure.now) c.args.events.now c.loop-event.event-index c.event-item.result c.new-found.result c.loop-event.found c.find_label.new.found (omega arith) c.event-item.is
    (c.loop-event.invariant protocol) (c.in_ok-find_label.ensures protocol)
