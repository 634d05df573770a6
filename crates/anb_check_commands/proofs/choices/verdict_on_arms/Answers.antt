use Rattle.std.proofs.Common.{◌≤◌, ℕ, List, length, ap, sym, subst, arith}
use Rattle.std.specs.List.{AllByRecursion}
use Rattle.anb_lemmas.proofs.Results.{if_ok_map}
use Rattle.anb_command.specs.declared.limits.TheConstants.{NARRATION_LIMIT}
use Rattle.anb_check_commands.specs.CheckCommand.{AreArms}
use Rattle.anb_check_commands.proofs.Choosing.{all_short, few_texts}
use Rattle.anb_check_commands.proofs.choices.verdict_on_arms.Goals as goal

pub verdict_on_each-requires-clause-short : goal.verdict_on_each-requires-clause-short
verdict_on_each-requires-clause-short c =
    subst (AllByRecursion (λ (t : List ℕ). length t ≤ NARRATION_LIMIT)) (sym c.deref.ensures.value)
    (all_short (length c.args.text.now) NARRATION_LIMIT c.in_ok-texts.texts.items c.requires.within c.in_ok-texts.ensures.short)

pub verdict_on_each-requires-clause-few : goal.verdict_on_each-requires-clause-few
verdict_on_each-requires-clause-few c =
    omega (arith, ap (λ (l : List (List ℕ)). length l) c.deref.ensures.value, few_texts c.args.text.now c.in_ok-texts.texts.items c.in_ok-texts.ensures.are)

pub returns-clause-is : goal.returns-clause-is
returns-clause-is c =
    if_ok_map c.verdict_on_each.result _ _
    (λ v arms. (c.in_ok-texts.texts.items, c.in_ok-texts.ensures.are, subst (λ (l : List (List ℕ)). AreArms c.args.name.now 1 l v.status v.said) c.deref.ensures.value arms)) c.verdict_on_each.ensures.is
