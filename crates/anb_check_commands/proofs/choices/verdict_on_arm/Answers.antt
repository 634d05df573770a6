use Rattle.std.proofs.Common.{◌≤◌, ℕ, List, length, ap, sym, ◌∙◌, subst}
use Rattle.std.specs.List.{AllByRecursion}
use Rattle.anb_lemmas.proofs.Results.{if_ok_map}
use Rattle.anb_check_commands.specs.CheckCommand.{IsVerdictOnText}
use Rattle.anb_check_commands.specs.ChoiceLines.{text_of_arm}
use Rattle.anb_check_commands.proofs.choices.verdict_on_arm.Goals as goal

pub text_of_arm-requires : goal.text_of_arm-requires
text_of_arm-requires c =
    subst (AllByRecursion (λ (t : List ℕ). length t ≤ length c.args.text.now)) (sym c.deref.ensures.value) c.in_ok-texts.ensures.short

pub returns-clause-is : goal.returns-clause-is
returns-clause-is c =
    let x = c.args.text.now in
    let own = c.text_of_arm.ensures.text ∙ ap (λ (l : List (List ℕ)). text_of_arm x l c.args.arm) c.deref.ensures.value in
    if_ok_map c.verdict_on_text.result _ _
    (λ v on. (c.in_ok-texts.texts.items, c.in_ok-texts.ensures.are, subst (λ (t : List ℕ). IsVerdictOnText c.args.name.now t v.status v.said) own on)) c.verdict_on_text.ensures.is
