-- One more event.
use Rattle.std.proofs.Common.{[], ◌∷◌, map, take, arith}
use Rattle.anb_term.specs.View.{tree_of}
use Rattle.anb_accept.specs.Taking.{later}
use Rattle.anb_accept.specs.Equations.{later_heard}
use Rattle.anb_accept.specs.Events.{event_value}
use Rattle.anb_accept.proofs.Steps.{later_snoc, later_heard_snoc, mapped_snoc}
use Rattle.anb_unify.proofs.Steps.{flat_next}
use Rattle.anb_accept.proofs.frame.put_later.Goals as goal

pub loop-event-preserved : goal.loop-event-preserved
loop-event-preserved c =
    let es = c.args.events.now in
    let i = c.loop-event.event-index in
    let e = c.event-item.result in
    record {
      terms = flat_next (λ xs. later (map event_value xs)) es i e (map tree_of c.args.terms.now.items) (map tree_of c.loop-event.terms.items) (map tree_of c.put_if_later.new.terms.items) (later (event_value e ∷ []))
          c.loop-event.invariant.terms (omega arith) c.event-item.is (mapped_snoc later event_value later_snoc (take i es) e) c.in_ok-put_if_later.ensures.terms;
      heard = flat_next (λ xs. later_heard (map event_value xs)) es i e c.args.heard.now.items c.loop-event.heard.items c.put_if_later.new.heard.items (later_heard (event_value e ∷ []))
          c.loop-event.invariant.heard (omega arith) c.event-item.is (mapped_snoc later_heard event_value later_heard_snoc (take i es) e) c.in_ok-put_if_later.ensures.heard;
    }
