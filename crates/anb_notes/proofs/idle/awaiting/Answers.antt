-- One event more, from the last one back.
use Rattle.std.proofs.Common.{◌≡◌, ◌+◌, ◌-◌, List, [], drop, length, map, sym, ap, ◌∙◌, arith}
use Rattle.std.specs.Prelude.{◌||◌, reverse}
use Rattle.std.specs.List.{list_any}
use Rattle.std.proofs.lemmas.List.{drop_all}
use Rattle.anb_lemmas.proofs.Lists.{map_drop_next}
use Rattle.anb_protocol.specs.declared.plans.Event.{Event}
use Rattle.anb_protocol.specs.Views.{plan_event}
use Rattle.anb_notes.specs.Idle.{awaiting, receives}
use Rattle.anb_notes.proofs.Waiting.{one_earlier}
use Rattle.anb_notes.proofs.idle.awaiting.Goals as goal

pub loop-k-init : goal.loop-k-init
loop-k-init c =
    let events = c.args.events.now in
    let none : drop (length events - 0) events ≡ [] = drop_all (length events - 0) events (omega arith) in
    record {
      later = ap (λ (l : List Event). list_any receives (map plan_event l)) (sym none);
      names = ap reverse c.new-names.ensures.items ∙ ap (λ (l : List Event). awaiting (map plan_event l)) (sym none);
    }

pub loop-k-preserved : goal.loop-k-preserved
loop-k-preserved c =
    let events = c.args.events.now in
    let i = length events - 1 - c.loop-k.k in
    let e = c.index-events-many.result in
    let behind : length events - c.loop-k.k ≡ i + 1 = omega arith in
    let at : i ≡ length events - (c.loop-k.k + 1) = omega arith in
    let rest = map plan_event (drop (i + 1) events) in
    let later = c.loop-k.invariant.later ∙ ap (λ k. list_any receives (map plan_event (drop k events))) behind in
    let names = c.loop-k.invariant.names ∙ ap (λ k. awaiting (map plan_event (drop k events))) behind in
    let here = sym (map_drop_next plan_event events i e (omega arith) c.index-events-many.is) in
    record {
      later = c.is_later-later.ensures ∙ ap (λ b. receives (plan_event e) || b) later ∙ ap (list_any receives) here ∙ ap (λ k. list_any receives (map plan_event (drop k events))) at;
      names = one_earlier rest (plan_event e) c.loop-k.names.items c.put_made_if.new.names.items c.loop-k.later later names c.in_ok-put_made_if.ensures
          ∙ ap awaiting here ∙ ap (λ k. awaiting (map plan_event (drop k events))) at;
    }
