-- By the names that the patterns of the first events have.
use Rattle.std.proofs.Common.{◌≡◌, ℕ, ◌<◌, List, length, map, take, Option, Some, None, sym, ap, ◌∙◌, subst}
use Rattle.std.specs.Prelude.{slice_get, IfSome, IfNone}
use Rattle.anb_term.specs.Tree.{Tree}
use Rattle.anb_term.specs.declared.term.Term.{Term}
use Rattle.anb_term.specs.View.{tree_of}
use Rattle.anb_term.proofs.Lists.{map-take}
use Rattle.anb_algebra.specs.ByteMeaning.{has_operator}
use Rattle.anb_plays.specs.Plans.{Event}
use Rattle.anb_protocol.specs.Plans.{plan_of}
use Rattle.anb_protocol.specs.Plays.{event_of}
use Rattle.anb_protocol.specs.Views.{plan_event}
use Rattle.anb_pattern.specs.Counts.{AreCounts}
use Rattle.anb_pattern.specs.Variables.{count_in_each}
use Rattle.anb_accept.specs.Events.{event_value}
use Rattle.anb_accept.specs.Patterns.{ArePatterns}
use Rattle.anb_accept.specs.Roles.{AreFirst}
use Rattle.anb_unify.proofs.Steps.{map_map}
use Rattle.anb_outsider.specs.Recordings.{drawn}
use Rattle.anb_outsider.specs.Searching.{IsUncounted, IsFirstCounted, GoesTo, StopsFor}
use Rattle.anb_outsider.proofs.Drawn.{drawn_named}
use Rattle.anb_outsider.proofs.Stops.{goes, stops}
use Rattle.anb_outsider.proofs.recording.stop_at.Goals as goal

none_map : (o : Option ℕ) (P Q : Type 0) → (P → Q) → IfNone o P → IfNone o Q
none_map None P Q f h = f h
none_map (Some x) P Q f h = tt

some_map : (o : Option ℕ) (P Q : ℕ → Type 0) → ((n : ℕ) → P n → Q n) → IfSome o P → IfSome o Q
some_map None P Q f h = tt
some_map (Some x) P Q f h = f x h

pub patterns_in-requires : goal.patterns_in-requires
patterns_in-requires c =
    record { role = c.requires.whole.role; many = c.args.end; is = map-take plan_event c.args.end c.args.events.now ∙ ap (take c.args.end) c.requires.whole.is }

pub returns-clause-goes : goal.returns-clause-goes
returns-clause-goes c =
    let p = c.args.protocol.now in
    let has = has_operator p.formats in
    let names = length p.atoms in
    let plan = map event_value c.args.events.now in
    let k = c.args.end in
    let patterns = map tree_of c.in_ok-patterns.patterns.items in
    let counts = c.deref-2.result.now in
    let are = subst (λ (l : List Event). ArePatterns has names l patterns) (map-take event_value k c.args.events.now) c.in_ok-patterns.ensures.exact in
    let of_these = subst (λ (l : List Term). AreCounts 0 (λ v. count_in_each v (map tree_of l)) c.in_ok-counts.counts.items) c.deref.ensures.value c.in_ok-counts.ensures.counts in
    let counted = subst (λ (l : List ℕ). AreCounts 0 (λ v. count_in_each v patterns) l) (sym c.deref-2.ensures.value) of_these in
    let long : length counts ≡ names = ap length c.deref-2.ensures.value ∙ c.in_ok-counts.ensures.long ∙ ap length c.declared.ensures in
    let whole : map event_of (plan_of p c.requires.whole.role) ≡ plan = sym (sym (map_map event_of plan_event c.args.events.now) ∙ ap (map event_of) c.requires.whole.is) in
    let named = subst (λ (l : List Event). (i n : ℕ) → slice_get (drawn l) i ≡ Some n → n < names) whole (drawn_named p (plan_of p c.requires.whole.role) (c.terms_of_plans.ensures p c.requires.whole.role c.name.ensures.protocol)) in
    none_map c.first_counted.result ((i n : ℕ) → slice_get c.args.names.now i ≡ Some n → IsUncounted counts n) (GoesTo has names plan k)
    (λ un. goes has names plan k patterns are counts counted long named (λ i n e. un i n (ap (λ (l : List ℕ). slice_get l i) c.requires.names ∙ e))) c.first_counted.ensures.none

pub returns-clause-stops : goal.returns-clause-stops
returns-clause-stops c =
    let p = c.args.protocol.now in
    let has = has_operator p.formats in
    let names = length p.atoms in
    let plan = map event_value c.args.events.now in
    let k = c.args.end in
    let patterns = map tree_of c.in_ok-patterns.patterns.items in
    let counts = c.deref-2.result.now in
    let are = subst (λ (l : List Event). ArePatterns has names l patterns) (map-take event_value k c.args.events.now) c.in_ok-patterns.ensures.exact in
    let of_these = subst (λ (l : List Term). AreCounts 0 (λ v. count_in_each v (map tree_of l)) c.in_ok-counts.counts.items) c.deref.ensures.value c.in_ok-counts.ensures.counts in
    let counted = subst (λ (l : List ℕ). AreCounts 0 (λ v. count_in_each v patterns) l) (sym c.deref-2.ensures.value) of_these in
    let long : length counts ≡ names = ap length c.deref-2.ensures.value ∙ c.in_ok-counts.ensures.long ∙ ap length c.declared.ensures in
    let whole : map event_of (plan_of p c.requires.whole.role) ≡ plan = sym (sym (map_map event_of plan_event c.args.events.now) ∙ ap (map event_of) c.requires.whole.is) in
    let named = subst (λ (l : List Event). (i n : ℕ) → slice_get (drawn l) i ≡ Some n → n < names) whole (drawn_named p (plan_of p c.requires.whole.role) (c.terms_of_plans.ensures p c.requires.whole.role c.name.ensures.protocol)) in
    some_map c.first_counted.result (λ name. IsFirstCounted counts c.args.names.now name) (StopsFor has names plan k)
    (λ name is. stops has names plan k patterns are counts counted long named name (subst (λ (l : List ℕ). IsFirstCounted counts l name) c.requires.names is)) c.first_counted.ensures.some
