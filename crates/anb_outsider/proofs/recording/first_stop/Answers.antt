-- Up to the middle it is taken, or it isn't.
use Rattle.std.proofs.Common.{◌≡◌, ℕ, ◌+◌, ◌-◌, ◌/◌, ◌<◌, ◌≤◌, List, length, map, take, get_or, Option, Some, sym, ap, ◌∙◌, subst, arith}
use Rattle.std.specs.Prelude.{slice_get, IfSome, IfNone}
use Rattle.std.proofs.lemmas.List.{length-map, length-take-le}
use Rattle.anb_term.proofs.Lists.{map-take}
use Rattle.anb_algebra.specs.ByteMeaning.{has_operator}
use Rattle.anb_plays.specs.Plans.{Event}
use Rattle.anb_protocol.specs.Laws.{KnowsFirst}
use Rattle.anb_protocol.specs.Plans.{plan_of}
use Rattle.anb_protocol.specs.Plays.{event_of}
use Rattle.anb_protocol.specs.Views.{plan_event}
use Rattle.anb_accept.specs.Events.{event_value}
use Rattle.anb_unify.proofs.Steps.{got, map_map}
use Rattle.anb_outsider.specs.Recordings.{messages_in}
use Rattle.anb_outsider.specs.Searching.{ends_from, GoesTo, StopsFor}
use Rattle.anb_outsider.proofs.Ends.{by_first, end_within}
use Rattle.anb_outsider.proofs.Stops.{first_stop, next}
use Rattle.anb_outsider.proofs.recording.first_stop.Goals as goal

one_item : (xs : List ℕ) (i a b : ℕ) → slice_get xs i ≡ Some a → slice_get xs i ≡ Some b → a ≡ b
one_item xs i a b h g = cc

among_ends : (xs ys : List ℕ) (i e : ℕ) → xs ≡ ys → slice_get xs i ≡ Some e → slice_get ys i ≡ Some e
among_ends xs ys i e same h = ap (λ (l : List ℕ). slice_get l i) (sym same) ∙ h

pub halves-init : goal.halves-init
halves-init c =
    let plan = map event_value c.args.events.now in
    record {
      within = omega (arith, c.requires.some);
      order = omega arith;
      stops = c.requires.stops;
      goes = λ k e at r l. absurd (by_first plan e k (among_ends c.args.ends.now (ends_from 0 plan) 0 e c.requires.ends at) r l);
    }

pub stop_at-requires-clause-within : goal.stop_at-requires-clause-within
stop_at-requires-clause-within c =
    let plan = map event_value c.args.events.now in
    let m = c.halves.low + (c.halves.high - c.halves.low) / 2 in
    let within : m < length c.args.ends.now = omega (arith, c.halves.invariant.within, c.halves-test.true) in
    let e = get_or c.args.ends.now m 0 in
    let w = end_within plan m e (among_ends c.args.ends.now (ends_from 0 plan) m e c.requires.ends (got c.args.ends.now m 0 within)) in
    omega (arith, w, length-map c.args.events.now event_value)

pub halves-preserved-in-Some : goal.halves-preserved-in-Some
halves-preserved-in-Some c =
    let p = c.args.protocol.now in
    let has = has_operator p.formats in
    let names = length p.atoms in
    let plan = map event_value c.args.events.now in
    let m = c.halves.low + (c.halves.high - c.halves.low) / 2 in
    let within : m < length c.args.ends.now = omega (arith, c.halves.invariant.within, c.halves-test.true) in
    let e = get_or c.args.ends.now m 0 in
    let stop = subst (λ (o : Option ℕ). IfSome o (StopsFor has names plan e)) c.in-Some.is c.in_ok-found.ensures.stops in
    record {
      within = within;
      order = omega arith;
      stops = λ x at. subst (λ n. StopsFor has names plan n c.in-Some.found) (one_item c.args.ends.now m e x (got c.args.ends.now m 0 within) at) stop;
      goes = c.halves.invariant.goes;
    }

pub halves-preserved : goal.halves-preserved
halves-preserved c =
    let p = c.args.protocol.now in
    let has = has_operator p.formats in
    let names = length p.atoms in
    let plan = map event_value c.args.events.now in
    let m = c.halves.low + (c.halves.high - c.halves.low) / 2 in
    let within : m < length c.args.ends.now = omega (arith, c.halves.invariant.within, c.halves-test.true) in
    let e = get_or c.args.ends.now m 0 in
    let here = among_ends c.args.ends.now (ends_from 0 plan) m e c.requires.ends (got c.args.ends.now m 0 within) in
    let goes = subst (λ (o : Option ℕ). IfNone o (GoesTo has names plan e)) c.in-None.is c.in_ok-found.ensures.goes in
    let whole : map event_of (plan_of p c.requires.whole.role) ≡ plan = sym (sym (map_map event_of plan_event c.args.events.now) ∙ ap (map event_of) c.requires.whole.is) in
    let knows = subst KnowsFirst whole (c.plans_know_first.ensures p c.requires.whole.role) in
    record {
      within = c.halves.invariant.within;
      order = omega (arith, c.halves-test.true);
      stops = c.halves.invariant.stops;
      goes = λ k x at r l. next has names plan knows m e x k here (among_ends c.args.ends.now (ends_from 0 plan) (m + 1) x c.requires.ends at) goes r l;
    }

pub slice_bounds-count_messages-end : goal.slice_bounds-count_messages-end
slice_bounds-count_messages-end c =
    let plan = map event_value c.args.events.now in
    let j = c.halves.high in
    let e = get_or c.args.ends.now j 0 in
    let w = end_within plan j e (among_ends c.args.ends.now (ends_from 0 plan) j e c.requires.ends (got c.args.ends.now j 0 c.halves.invariant.within)) in
    sym (length-take-le e c.args.events.now (omega (arith, w, length-map c.args.events.now event_value)))

pub returns : goal.returns
returns c =
    let p = c.args.protocol.now in
    let has = has_operator p.formats in
    let names = length p.atoms in
    let plan = map event_value c.args.events.now in
    let j = c.halves.high in
    let e = get_or c.args.ends.now j 0 in
    let here = got c.args.ends.now j 0 c.halves.invariant.within in
    let same : j ≡ c.halves.low = omega (arith, c.halves.invariant.order, c.halves-test.false) in
    first_stop has names plan j e c.count_messages-event.result c.halves.name (among_ends c.args.ends.now (ends_from 0 plan) j e c.requires.ends here)
    (c.count_messages-event.ensures ∙ ap messages_in (map-take event_value e c.args.events.now)) (c.halves.invariant.stops e here)
    (λ k r l. c.halves.invariant.goes k e (ap (slice_get c.args.ends.now) (sym same) ∙ here) r l)
