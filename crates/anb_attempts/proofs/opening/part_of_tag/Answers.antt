use Rattle.std.proofs.Common.{◌≡◌, ◌∷◌, [], ◌++◌, List, map, IsTrue, ap, ◌∙◌, subst, inl}
use Rattle.anb_term.specs.View.{tree_of}
use Rattle.anb_term.specs.declared.term.Term.{Term}
use Rattle.anb_verdict.specs.Places.{place_value}
use Rattle.anb_attempts.specs.declared.parts.Part.{Part}
use Rattle.anb_attempts.specs.Attempts.{IsOpeningAttempt, IsPartOfTag, Place, TermsMayStand, opening_place, place_at}
use Rattle.anb_attempts.specs.Parts.{part_value, retagging_value}
use Rattle.anb_attempts.proofs.Turns.{if_three}
use Rattle.anb_attempts.proofs.opening.part_of_tag.Goals as goal

pub returns : goal.returns
returns c =
    let p = c.args.p.now in
    let role = c.args.role in
    let case = c.args.case in
    let tag = c.args.tag in
    let attempt = c.in_ok-attempt.attempt in
    let place : place_value c.in_ok-place.place ≡ opening_place p role case = c.in_ok-place.ensures ∙ ap (λ (l : List Term). place_at p role (map tree_of l) case.event) c.deref.ensures.value in
    let falsely = subst (λ (at : Place). IsOpeningAttempt p role c.args.scene at tag.way attempt) place c.in_ok-attempt.ensures in
    let yes : IsTrue c.in_ok-terms_may_stand.field-0 = c.if-not-branch.false in
    let stands = subst (λ (l : List Term). TermsMayStand p (map tree_of l) (map tree_of case.messages.items) (tree_of tag.pair)) c.deref-2.ensures.value
    (subst (λ (l : List Term). TermsMayStand p (map tree_of c.deref-2.result.now) (map tree_of l) (tree_of tag.pair)) c.deref-3.ensures.value (c.in_ok-terms_may_stand.ensures.0 yes)) in
    if_three c.one_scene.result _ _ _ (λ (part : Part). IsPartOfTag p role (retagging_value tag) c.args.scene case (part_value part)) c.one_scene.ensures.scene c.one_scene.ensures.attempts c.one_scene.ensures.gaps
    (λ part s a g. inl (record {
      stands = stands;
      scene = c.scene_of_tag.result;
      is = c.scene_of_tag.ensures;
      attempt = attempt;
      falsely = falsely;
      scenes = s;
      attempts = a ∙ c.in_ok-push.ensures.items ∙ ap (λ l. l ++ attempt ∷ []) c.new-attempts.ensures.items;
      gaps = g;
    }))
