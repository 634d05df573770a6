-- One more event.
use Rattle.std.proofs.Common.{[], ◌∷◌, map, take, false, arith}
use Rattle.anb_term.specs.View.{tree_of}
use Rattle.anb_plays.specs.Plans.{known}
use Rattle.anb_accept.specs.Events.{event_value}
use Rattle.anb_accept.proofs.Steps.{known_snoc, flags_snoc, mapped_snoc}
use Rattle.anb_unify.proofs.Steps.{flat_next}
use Rattle.anb_accept.proofs.frame.put_known.Goals as goal

pub loop-event-preserved : goal.loop-event-preserved
loop-event-preserved c =
    let es = c.args.events.now in
    let i = c.loop-event.event-index in
    let e = c.event-item.result in
    record {
      terms = flat_next (λ xs. known (map event_value xs)) es i e (map tree_of c.args.terms.now.items) (map tree_of c.loop-event.terms.items) (map tree_of c.put_if_known.new.terms.items) (known (event_value e ∷ []))
          c.loop-event.invariant.terms (omega arith) c.event-item.is (mapped_snoc known event_value known_snoc (take i es) e) c.in_ok-put_if_known.ensures.terms;
      heard = flat_next (λ xs. map (λ t. false) (known (map event_value xs))) es i e c.args.heard.now.items c.loop-event.heard.items c.put_if_known.new.heard.items (map (λ t. false) (known (event_value e ∷ [])))
          c.loop-event.invariant.heard (omega arith) c.event-item.is (mapped_snoc (λ ks. map (λ t. false) (known ks)) event_value flags_snoc (take i es) e) c.in_ok-put_if_known.ensures.heard;
    }
