use Rattle.std.proofs.Common.{ℕ, Option, sym, ◌∙◌, subst}
use Rattle.anb_lemmas.proofs.Results.{if_ok_map}
use Rattle.anb_check_commands.specs.CheckCommand.{IsVerdictOnPart}
use Rattle.anb_check_commands.proofs.Choosing.{has_arms}
use Rattle.anb_check_commands.proofs.choices.verdict_on_part.Goals as goal

pub verdict_on_arm-requires-clause-ordered : goal.verdict_on_arm-requires-clause-ordered
verdict_on_arm-requires-clause-ordered c = has_arms c.args.text.now c.args.no.now c.in-Some.arm c.requires.untold (sym c.refused_arm.ensures ∙ c.in-Some.is)

pub returns-in-Some-clause-is : goal.returns-in-Some-clause-is
returns-in-Some-clause-is c =
    if_ok_map c.verdict_on_arm.result _ _
    (λ v on. subst (λ (o : Option ℕ). IsVerdictOnPart c.args.name.now c.args.text.now o v.status v.said) (sym c.in-Some.is ∙ c.refused_arm.ensures) on)
    c.verdict_on_arm.ensures.is

pub returns-in-None-clause-is : goal.returns-in-None-clause-is
returns-in-None-clause-is c =
    if_ok_map c.unread_verdict.result _ _
    (λ v on. subst (λ (o : Option ℕ). IsVerdictOnPart c.args.name.now c.args.text.now o v.status v.said) (sym c.in-None.is ∙ c.refused_arm.ensures) on)
    c.unread_verdict.ensures.is
