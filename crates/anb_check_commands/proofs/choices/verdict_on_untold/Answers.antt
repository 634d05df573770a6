use Rattle.std.proofs.Common.{ℕ, Option, sym, ◌∙◌, subst, inl}
use Rattle.anb_lemmas.proofs.Results.{if_ok_map}
use Rattle.anb_check_commands.specs.CheckCommand.{IsVerdictAt}
use Rattle.anb_check_commands.proofs.choices.verdict_on_untold.Goals as goal

pub returns-in-Some-clause-is : goal.returns-in-Some-clause-is
returns-in-Some-clause-is c =
    if_ok_map c.verdict_on_order.result _ _
    (λ v on. inl (c.args.no.now, c.requires.untold, subst (λ (o : Option ℕ). IsVerdictAt c.args.name.now c.args.text.now c.args.why c.args.no.now o v.status v.said) (sym c.in-Some.is ∙ c.wrong_at.ensures) on))
    c.verdict_on_order.ensures.is

pub returns-in-None-clause-is : goal.returns-in-None-clause-is
returns-in-None-clause-is c =
    if_ok_map c.verdict_on_part.result _ _
    (λ v on. inl (c.args.no.now, c.requires.untold, subst (λ (o : Option ℕ). IsVerdictAt c.args.name.now c.args.text.now c.args.why c.args.no.now o v.status v.said) (sym c.in-None.is ∙ c.wrong_at.ensures) on))
    c.verdict_on_part.ensures.is
