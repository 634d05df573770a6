use Rattle.std.proofs.Common.{◌≤◌, ℕ, List, length, ap, refl, sym, ◌∙◌, subst}
use Rattle.std.specs.List.{AllByRecursion}
use Rattle.anb_check_commands.specs.ChoiceLines.{text_of_arm}
use Rattle.anb_check_commands.proofs.Choosing.{at_action}
use Rattle.anb_check_commands.proofs.choices.said_at_action.Goals as goal

pub text_of_arm-own-requires : goal.text_of_arm-own-requires
text_of_arm-own-requires c =
    subst (AllByRecursion (λ (t : List ℕ). length t ≤ length c.args.text.now)) (sym c.deref.ensures.value) c.in_ok-texts.ensures.short

pub returns : goal.returns
returns c =
    let x = c.args.text.now in
    let own = c.text_of_arm-own.ensures.text ∙ ap (λ (l : List (List ℕ)). text_of_arm x l c.args.arm) c.deref.ensures.value in
    at_action c.args.name.now x c.text_of_arm-own.result.now c.args.arm c.args.action c.args.line.now _ c.in_ok-said.said c.in_ok-texts.texts.items c.in_ok-texts.ensures.are own refl c.in_ok-said.ensures
