use Rattle.std.proofs.Common.{◌≡◌, ℕ, List, map, IsTrue, sym, ap, ◌∙◌, subst, inl}
use Rattle.std.specs.List.{AllZip}
use Rattle.anb_term.specs.View.{tree_of}
use Rattle.anb_term.specs.declared.term.Term.{Term}
use Rattle.anb_verdict.specs.Places.{place_value}
use Rattle.anb_attempts.specs.declared.parts.Part.{Part}
use Rattle.anb_attempts.specs.Attempts.{IsAttempt, IsPartOfCase, IsSceneOf, Place, TermsMayStand, case_place, place_at}
use Rattle.anb_attempts.specs.Parts.{part_value}
use Rattle.anb_attempts.proofs.Turns.{if_three}
use Rattle.anb_attempts.proofs.checking.part_of_case.Goals as goal

pub returns : goal.returns
returns c =
    let p = c.args.p.now in
    let role = c.args.role in
    let case = c.args.case in
    let reading = c.args.reading in
    let changes = c.args.changes.now in
    let attempts = c.in_ok-attempts.attempts.items in
    let place : place_value c.in_ok-place.place ≡ case_place p role case = c.in_ok-place.ensures ∙ ap (λ (l : List Term). place_at p role (map tree_of l) case.event) c.deref.ensures.value in
    let tried = subst (λ (at : Place). AllZip (IsAttempt p role c.args.scene at reading) changes attempts) place c.in_ok-attempts.ensures in
    let is = subst (λ (spare : ℕ). IsSceneOf spare case c.scene_of.result) c.in_ok-spare.ensures c.scene_of.ensures in
    let yes : IsTrue c.in_ok-terms_may_stand.field-0 = c.if-not-branch.false in
    let stands = subst (λ (l : List Term). TermsMayStand p (map tree_of l) (map tree_of case.messages.items) (tree_of case.wrong)) c.deref-2.ensures.value
    (subst (λ (l : List Term). TermsMayStand p (map tree_of c.deref-2.result.now) (map tree_of l) (tree_of case.wrong)) c.deref-3.ensures.value (c.in_ok-terms_may_stand.ensures.0 yes)) in
    if_three c.one_scene.result _ _ _ (λ (part : Part). IsPartOfCase p role reading changes c.args.scene case (part_value part)) c.one_scene.ensures.scene c.one_scene.ensures.attempts c.one_scene.ensures.gaps
    (λ part s a g. inl (record {
      stands = stands;
      scene = c.scene_of.result;
      is = is;
      scenes = s;
      attempts = subst (AllZip (IsAttempt p role c.args.scene (case_place p role case) reading) changes) (sym a) tried;
      gaps = g;
    }))
