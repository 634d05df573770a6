use Rattle.std.proofs.Common.{◌≡◌, Option, Some, None, subst}
use Rattle.std.specs.Option.{option_map}
use Rattle.anb_term.specs.View.{tree_of}
use Rattle.anb_attempts.specs.declared.parts.Part.{Part}
use Rattle.anb_attempts.specs.declared.retagging.Retagging.{Retagging}
use Rattle.anb_attempts.specs.Attempts.{IsPartOfTried}
use Rattle.anb_attempts.specs.Parts.{part_value, retagging_value}
use Rattle.anb_attempts.specs.Retagging.{RetaggingValue, retagging_at}
use Rattle.anb_attempts.proofs.Turns.{if_one}
use Rattle.anb_attempts.proofs.opening.part_of_found.Goals as goal

pub returns-in-Some : goal.returns-in-Some
returns-in-Some c =
    let p = c.args.p.now in
    let role = c.args.role in
    let case = c.args.case in
    let found = retagging_at p c.args.parsed (tree_of case.opened) in
    let there : Some (retagging_value c.in-Some.tag) ≡ found = subst (λ (o : Option Retagging). option_map retagging_value o ≡ found) c.in-Some.is c.in_ok-tag.ensures in
    if_one c.part_of_tag.result _ (λ (part : Part). IsPartOfTried p role c.args.all c.args.parsed found c.args.scene case (part_value part)) c.part_of_tag.ensures
    (λ part h. subst (λ (o : Option RetaggingValue). IsPartOfTried p role c.args.all c.args.parsed o c.args.scene case (part_value part)) there h)

pub returns-in-None : goal.returns-in-None
returns-in-None c =
    let p = c.args.p.now in
    let role = c.args.role in
    let case = c.args.case in
    let found = retagging_at p c.args.parsed (tree_of case.opened) in
    let there : None ≡ found = subst (λ (o : Option Retagging). option_map retagging_value o ≡ found) c.in-None.is c.in_ok-tag.ensures in
    if_one c.part_of_opened.result _ (λ (part : Part). IsPartOfTried p role c.args.all c.args.parsed found c.args.scene case (part_value part)) c.part_of_opened.ensures
    (λ part h. subst (λ (o : Option RetaggingValue). IsPartOfTried p role c.args.all c.args.parsed o c.args.scene case (part_value part)) there h)
