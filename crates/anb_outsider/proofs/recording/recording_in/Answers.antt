-- Up to the last end it is taken, or it isn't.
use Rattle.std.proofs.Common.{◌≡◌, ℕ, zero, suc, ◌+◌, ◌-◌, ◌<◌, ◌≤◌, List, [], ◌∷◌, length, map, Bool, true, false, Option, Some, refl, sym, ap, ◌∙◌, subst, arith}
use Rattle.std.specs.Prelude.{slice_get, ◌==◌, IfSome, IfNone}
use Rattle.std.proofs.lemmas.Bool.{eq-eqb, eqb-true}
use Rattle.std.proofs.lemmas.List.{length-map}
use Rattle.anb_lemmas.proofs.Lists.{item_at}
use Rattle.anb_algebra.specs.ByteMeaning.{has_operator}
use Rattle.anb_protocol.specs.Laws.{KnowsFirst}
use Rattle.anb_protocol.specs.Plans.{plan_of}
use Rattle.anb_protocol.specs.Plays.{event_of}
use Rattle.anb_protocol.specs.Views.{plan_event}
use Rattle.anb_accept.specs.Events.{event_value}
use Rattle.anb_unify.proofs.Steps.{map_map}
use Rattle.anb_outsider.specs.Searching.{ends_from, GoesTo, StopsFor}
use Rattle.anb_outsider.proofs.Ends.{none_received, end_within}
use Rattle.anb_outsider.proofs.Stops.{whole}
use Rattle.anb_outsider.proofs.recording.recording_in.Goals as goal

empty : (xs : List ℕ) (n : ℕ) → n ≡ length xs → true ≡ (n == 0) → xs ≡ []
empty [] n is e = refl
empty (x ∷ xs) n is e = let z = eqb-true n 0 (sym e) in absurd (omega (arith, is, z))

some : (xs : List ℕ) (n : ℕ) → n ≡ length xs → false ≡ (n == 0) → 1 ≤ length xs
some [] n is e = let z : true ≡ false = sym (eq-eqb n 0 is) ∙ sym e in let y : ◌≡◌ {A = ℕ} 1 0 = cc in absurd (omega (arith, y))
some (x ∷ xs) n is e = omega arith

one_item : (xs : List ℕ) (i a b : ℕ) → slice_get xs i ≡ Some a → slice_get xs i ≡ Some b → a ≡ b
one_item xs i a b h g = cc

among_ends : (xs ys : List ℕ) (i e : ℕ) → xs ≡ ys → slice_get xs i ≡ Some e → slice_get ys i ≡ Some e
among_ends xs ys i e same h = ap (λ (l : List ℕ). slice_get l i) (sym same) ∙ h

pub returns-then-is_empty : goal.returns-then-is_empty
returns-then-is_empty c =
    let plan = map event_value c.args.events.now in
    let none : ends_from 0 plan ≡ [] = sym c.in_ok-ends.ensures ∙ empty c.in_ok-ends.ends.items c.in_ok-ends.ends.len c.in_ok-ends.ends.ok.0 c.if-is_empty.ensures in
    λ k r. absurd (none_received plan none k r)

pub stop_at-requires-clause-within : goal.stop_at-requires-clause-within
stop_at-requires-clause-within c =
    let plan = map event_value c.args.events.now in
    let ends = c.in_ok-ends.ends.items in
    let j = c.len.result - 1 in
    let within : j < length ends = omega (arith, c.len.ensures, c.in_ok-ends.ends.ok.0, some ends c.in_ok-ends.ends.len c.in_ok-ends.ends.ok.0 c.if-is_empty.ensures) in
    let here = item_at ends j c.index.result.now within c.index.ensures in
    let w = end_within plan j c.index.result.now (among_ends ends (ends_from 0 plan) j c.index.result.now c.in_ok-ends.ensures here) in
    omega (arith, w, length-map c.args.events.now event_value)

pub returns-in-None : goal.returns-in-None
returns-in-None c =
    let p = c.args.protocol.now in
    let has = has_operator p.formats in
    let names = length p.atoms in
    let plan = map event_value c.args.events.now in
    let ends = c.in_ok-ends.ends.items in
    let j = c.len.result - 1 in
    let e = c.index.result.now in
    let there = some ends c.in_ok-ends.ends.len c.in_ok-ends.ends.ok.0 c.if-is_empty.ensures in
    let within : j < length ends = omega (arith, c.len.ensures, c.in_ok-ends.ends.ok.0, there) in
    let here = among_ends ends (ends_from 0 plan) j e c.in_ok-ends.ensures (item_at ends j e within c.index.ensures) in
    let goes = subst (λ (o : Option ℕ). IfNone o (GoesTo has names plan e)) c.in-None.is c.in_ok-stop_at.ensures.goes in
    let plan_is : map event_of (plan_of p c.requires.role) ≡ plan = sym (sym (map_map event_of plan_event c.args.events.now) ∙ ap (map event_of) c.requires.is) in
    let knows = subst KnowsFirst plan_is (c.plans_know_first.ensures p c.requires.role) in
    let count : length ends ≡ length (ends_from 0 plan) = ap length c.in_ok-ends.ensures in
    whole has names plan knows j e (omega (arith, c.len.ensures, c.in_ok-ends.ends.ok.0, there, count)) here goes

pub first_stop-requires-clause-stops : goal.first_stop-requires-clause-stops
first_stop-requires-clause-stops c =
    let p = c.args.protocol.now in
    let has = has_operator p.formats in
    let names = length p.atoms in
    let plan = map event_value c.args.events.now in
    let ends = c.in_ok-ends.ends.items in
    let j = c.len.result - 1 in
    let e = c.index.result.now in
    let within : j < length ends = omega (arith, c.len.ensures, c.in_ok-ends.ends.ok.0, some ends c.in_ok-ends.ends.len c.in_ok-ends.ends.ok.0 c.if-is_empty.ensures) in
    let here = item_at ends j e within c.index.ensures in
    let stop = subst (λ (o : Option ℕ). IfSome o (StopsFor has names plan e)) c.in-Some.is c.in_ok-stop_at.ensures.stops in
    let same : c.deref-in-Some-2.result.now ≡ ends = c.deref-in-Some-2.ensures.value in
    let last : length c.deref-in-Some-2.result.now - 1 ≡ j = ap (λ (l : List ℕ). length l - 1) same ∙ sym (ap (λ n. n - 1) (c.len.ensures ∙ c.in_ok-ends.ends.ok.0)) in
    λ x at.
    subst (λ n. StopsFor has names plan n c.in-Some.name)
    (one_item ends j e x here (ap (slice_get ends) (sym last) ∙ ap (λ (l : List ℕ). slice_get l (length c.deref-in-Some-2.result.now - 1)) (sym same) ∙ at)) stop
