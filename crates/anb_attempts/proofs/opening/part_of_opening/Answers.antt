use Rattle.std.proofs.Common.{◌≡◌, ℕ, List, Option, map, ap, ◌∙◌, subst}
use Rattle.anb_openings.specs.Openings.{IsOpeningFinding}
use Rattle.anb_openings.specs.declared.cases.OpeningFinding.{OpeningFinding}
use Rattle.anb_openings.specs.declared.cases.OpeningFinding.TheVariants as opening
use Rattle.anb_term.specs.View.{tree_of}
use Rattle.anb_term.specs.declared.term.Term.{Term}
use Rattle.anb_verdict.specs.Places.{place_value}
use Rattle.anb_attempts.specs.declared.attempts.Why.{Why}
use Rattle.anb_attempts.specs.declared.parts.Part.{Part}
use Rattle.anb_attempts.specs.Attempts.{IsGap, IsPartOfOpening, IsPartOfTried, Place, obstacle_place, place_at, why_not}
use Rattle.anb_attempts.specs.Parts.{part_value}
use Rattle.anb_attempts.specs.Retagging.{retagging_at}
use Rattle.anb_attempts.proofs.Turns.{if_one}
use Rattle.anb_attempts.proofs.opening.part_of_opening.Goals as goal

pub returns-in-Case : goal.returns-in-Case
returns-in-Case c =
    let p = c.args.p.now in
    let role = c.args.role in
    let code = c.args.code.now in
    let case = c.in-Case.case in
    let found = subst (λ (f : OpeningFinding). IsOpeningFinding p role code c.args.instruction f) c.in-Case.is c.in_ok-case.ensures in
    if_one c.part_of_found.result _ (λ (part : Part). IsPartOfOpening p role code c.args.all c.args.scene c.args.instruction (part_value part)) c.part_of_found.ensures
    (λ part h. (opening.Case case, found, subst (λ (o : Option ℕ). IsPartOfTried p role c.args.all o (retagging_at p o (tree_of case.opened)) c.args.scene case (part_value part)) c.opened_format-parsed.ensures h))

pub returns-in_ok-place-in-NoCase : goal.returns-in_ok-place-in-NoCase
returns-in_ok-place-in-NoCase c =
    let p = c.args.p.now in
    let role = c.args.role in
    let code = c.args.code.now in
    let none = c.in-NoCase.none in
    let found = subst (λ (f : OpeningFinding). IsOpeningFinding p role code c.args.instruction f) c.in-NoCase.is c.in_ok-case.ensures in
    let place : place_value c.in_ok-place-in-NoCase.place ≡ obstacle_place p role none = c.in_ok-place-in-NoCase.ensures ∙ ap (λ (l : List Term). place_at p role (map tree_of l) none.event) c.deref.ensures.value in
    if_one c.one_gap.result _ (λ (part : Part). IsPartOfOpening p role code c.args.all c.args.scene c.args.instruction (part_value part)) c.one_gap.ensures
    (λ part h. (
      opening.NoCase none,
      found,
      subst (λ (at : Place). IsGap at (why_not none.why) (part_value part)) place (subst (λ (w : Why). IsGap (place_value c.in_ok-place-in-NoCase.place) w (part_value part)) c.why_not.ensures h),
    ))
