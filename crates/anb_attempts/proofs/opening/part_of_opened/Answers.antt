use Rattle.std.proofs.Common.{◌≡◌, ℕ, List, map, IsTrue, sym, ap, ◌∙◌, subst, inl}
use Rattle.std.specs.List.{AllZip}
use Rattle.anb_term.specs.View.{tree_of}
use Rattle.anb_term.specs.declared.term.Term.{Term}
use Rattle.anb_spoil.specs.declared.wrongs.Wrong.{Wrong}
use Rattle.anb_verdict.specs.Places.{place_value}
use Rattle.anb_attempts.specs.declared.parts.Part.{Part}
use Rattle.anb_attempts.specs.Attempts.{IsOpeningAttempt, IsPartOfOpened, Place, TermsMayStand, opening_place, place_at, ways_of}
use Rattle.anb_attempts.specs.Parts.{part_value}
use Rattle.anb_attempts.proofs.Turns.{if_three}
use Rattle.anb_attempts.proofs.opening.part_of_opened.Goals as goal

pub returns : goal.returns
returns c =
    let p = c.args.p.now in
    let role = c.args.role in
    let case = c.args.case in
    let ways = ways_of p c.args.all c.args.parsed in
    let attempts = c.in_ok-attempts.attempts.items in
    let place : place_value c.in_ok-place.place ≡ opening_place p role case = c.in_ok-place.ensures ∙ ap (λ (l : List Term). place_at p role (map tree_of l) case.event) c.deref.ensures.value in
    let same : c.deref-4.result.now ≡ ways = c.deref-4.ensures.value ∙ c.in_ok-ways.ensures in
    let tried = subst (λ (l : List Wrong). AllZip (IsOpeningAttempt p role c.args.scene (opening_place p role case)) l attempts) same
    (subst (λ (at : Place). AllZip (IsOpeningAttempt p role c.args.scene at) c.deref-4.result.now attempts) place c.in_ok-attempts.ensures) in
    let yes : IsTrue c.in_ok-terms_may_stand.field-0 = c.if-not-branch.false in
    let stands = subst (λ (l : List Term). TermsMayStand p (map tree_of l) (map tree_of case.messages.items) (tree_of case.opened)) c.deref-2.ensures.value
    (subst (λ (l : List Term). TermsMayStand p (map tree_of c.deref-2.result.now) (map tree_of l) (tree_of case.opened)) c.deref-3.ensures.value (c.in_ok-terms_may_stand.ensures.0 yes)) in
    if_three c.one_scene.result _ _ _ (λ (part : Part). IsPartOfOpened p role c.args.all c.args.parsed c.args.scene case (part_value part)) c.one_scene.ensures.scene c.one_scene.ensures.attempts c.one_scene.ensures.gaps
    (λ part s a g. inl (record {
      stands = stands;
      scene = c.scene_of_opening.result;
      is = c.scene_of_opening.ensures;
      scenes = s;
      attempts = subst (AllZip (IsOpeningAttempt p role c.args.scene (opening_place p role case)) ways) (sym a) tried;
      gaps = g;
    }))
