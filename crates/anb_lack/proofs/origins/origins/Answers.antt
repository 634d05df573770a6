use Rattle.std.proofs.Common.{◌≡◌, ◌++◌, ◌∷◌, [], List, true, length, map, take, sym, ap, ◌∙◌, subst, arith}
use Rattle.std.specs.List.{AllByRecursion, AllZip}
use Rattle.std.proofs.lemmas.List.{length-map, take_all}
use Rattle.anb_lemmas.proofs.Each.{each_got, take_next, zip_and_last}
use Rattle.anb_term.specs.Agree.{HasRecipe}
use Rattle.anb_term.specs.Tree.{nodes, trees_of, AreFormed, IsFormed}
use Rattle.anb_term.specs.View.{tree_of}
use Rattle.anb_term.proofs.Lists.{map-append, slice_get-at, slice_get-map}
use Rattle.anb_algebra.specs.ByteMeaning.{has_operator}
use Rattle.anb_close.specs.Entries as entries
use Rattle.anb_protocol.specs.Plans.{PlanEvent, plan_of}
use Rattle.anb_protocol.specs.Texts.{IsTermOf}
use Rattle.anb_protocol.specs.Views.{plan_event}
use Rattle.anb_compile.specs.Unsent.{labels_of}
use Rattle.anb_compile.proofs.Events.{formed_any}
use Rattle.anb_reason.proofs.Finding.{is_formed}
use Rattle.anb_lack.specs.Origins.{ComesFrom, HasBy}
use Rattle.anb_lack.proofs.Having.{held_all, plan_few, plan_formed, plan_has}
use Rattle.anb_lack.proofs.origins.origins.Goals as goal

pub hold-requires-clause-formed : goal.hold-requires-clause-formed
hold-requires-clause-formed c =
    subst (λ es. AllByRecursion (IsFormed (λ o. true)) (labels_of es)) (sym (c.events.ensures ∙ c.in_ok-plan.ensures.plan)) (plan_formed c.args.p.now c.args.role c.requires.holds)

pub hold-requires-clause-few : goal.hold-requires-clause-few
hold-requires-clause-few c = omega (arith, ap (λ es. nodes (labels_of es)) (c.events.ensures ∙ c.in_ok-plan.ensures.plan), plan_few c.args.p.now c.args.role c.requires.holds)

pub origin-requires-clause-formed : goal.origin-requires-clause-formed
origin-requires-clause-formed c =
    let p = c.args.p.now in
    let ts = c.args.terms.now in
    let i = c.loop-term.term-index in
    let x = c.term-item.result in
    let here = each_got (IsTermOf p) (map tree_of ts) i (tree_of x) c.requires.terms (slice_get-map tree_of ts i x (slice_get-at ts i x (omega arith) c.term-item.is)) in
    formed_any (has_operator p.formats) (tree_of x) (is_formed p (tree_of x) here)

pub origin-requires-clause-had : goal.origin-requires-clause-had
origin-requires-clause-had c =
    let p = c.args.p.now in
    let plan = plan_of p c.args.role in
    let has = has_operator p.formats in
    let events = c.events.result.now in
    let ts = c.args.terms.now in
    let i = c.loop-term.term-index in
    let x = c.term-item.result in
    let here = each_got (HasBy p plan (length plan)) (map tree_of ts) i (tree_of x) c.requires.had (slice_get-map tree_of ts i x (slice_get-at ts i x (omega arith) c.term-item.is)) in
    let same = c.events.ensures ∙ c.in_ok-plan.ensures.plan in
    let labels = held_all (map plan_event events) (length events) c.in_ok-held.held.closure c.in_ok-held.held.from.items (omega (arith, length-map events plan_event)) c.in_ok-held.ensures ∙ ap labels_of same in
    (has, subst (λ l. HasRecipe has l (tree_of x)) (ap labels_of (whole plan) ∙ sym labels) here) where
      whole : (es : List PlanEvent) → take (length es) es ≡ es
      whole es = take_all (length es) es (omega arith)

pub loop-term-preserved : goal.loop-term-preserved
loop-term-preserved c =
    let p = c.args.p.now in
    let plan = plan_of p c.args.role in
    let has = has_operator p.formats in
    let events = c.events.result.now in
    let ts = c.args.terms.now in
    let i = c.loop-term.term-index in
    let x = c.term-item.result in
    let held = c.in_ok-held.held in
    let same = c.events.ensures ∙ c.in_ok-plan.ensures.plan in
    let term = each_got (IsTermOf p) (map tree_of ts) i (tree_of x) c.requires.terms (slice_get-map tree_of ts i x (slice_get-at ts i x (omega arith) c.term-item.is)) in
    let labels = held_all (map plan_event events) (length events) held.closure held.from.items (omega (arith, length-map events plan_event)) c.in_ok-held.ensures ∙ ap labels_of same in
    let formed : AreFormed has (trees_of (entries.labels_of held.closure)) = subst (λ l. AreFormed has (trees_of l)) (sym labels) (plan_has p c.args.role c.requires.holds) in
    let comes : ComesFrom p plan (tree_of x) c.in_ok-origin.origin =
    subst (λ es. ComesFrom p es (tree_of x) c.in_ok-origin.origin) same (c.in_ok-origin.ensures p (map plan_event events) (length events) c.in_ok-held.ensures formed (is_formed p (tree_of x) term)) in
    let next = ap (map tree_of) (take_next ts i x (omega arith) c.term-item.is) ∙ map-append tree_of (take i ts) (x ∷ []) in
    subst (λ us. AllZip (ComesFrom p plan) us c.push.new.self.items) (sym next)
    (subst (AllZip (ComesFrom p plan) (map tree_of (take i ts) ++ tree_of x ∷ [])) (sym c.in_ok-push.ensures.items)
    (zip_and_last (ComesFrom p plan) (map tree_of (take i ts)) c.loop-term.origins.items (tree_of x) c.in_ok-origin.origin c.loop-term.invariant comes))
