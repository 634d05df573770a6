use Rattle.std.proofs.Common.{◌≡◌, ◌≤◌, ◌+◌, ◌++◌, ℕ, List, [], ◌∷◌, Result, Ok, Err, IfOk, length, ap, refl, sym, ◌∙◌, subst, arith}
use Rattle.std.specs.List.{AllByRecursion}
use Rattle.anb_command.specs.declared.limits.TheConstants.{NARRATION_LIMIT}
use Rattle.anb_status.specs.declared.status.Status.{Status}
use Rattle.anb_status.specs.declared.status.Status.TheVariants.{Done}
use Rattle.anb_check_commands.specs.CheckCommand.{AreArms, IsVerdictOnText, first_refusal}
use Rattle.anb_check_commands.specs.ChoiceLines.{arm_line}
use Rattle.anb_check_commands.proofs.choices.+verdict_on_each.Goals as goal

one_more : (name : List ℕ) (number : ℕ) (texts others : List (List ℕ)) (x y : List ℕ) (own later all : Status) (text rest said : List ℕ) → texts ≡ x ∷ others → y ≡ x
    → IsVerdictOnText name y own text → AreArms name (number + 1) others later rest → all ≡ first_refusal own later → said ≡ arm_line number ++ (text ++ rest) → AreArms name number texts all said
one_more name number texts others x y own later all text rest said e g on arms ends is =
    subst (λ (l : List (List ℕ)). AreArms name number l all said) (sym e)
    (own, text, later, rest, subst (λ (t : List ℕ). IsVerdictOnText name t own text) g on, arms, ends, is)

both : {V E : Type 0} (r : Result V E) (P Q R : V → Type 0) → ((v : V) → P v → Q v → R v) → IfOk r P → IfOk r Q → IfOk r R
both (Ok v) P Q R f p q = f v p q
both (Err e) P Q R f p q = tt

pub returns-clause-is : goal.returns-clause-is
returns-clause-is t c =
    let own = c.in_ok-own.own in
    let later = c.in_ok-later.later in
    both c.with_arm.result _ _ _
    (λ v ends is. one_more c.args.name.now c.args.number c.args.texts.now c.in-Some.others.now c.in-Some.text.now c.as_slice.result.now own.status later.status v.status own.said later.said v.said
    c.in-Some.ensures.cases.0 c.as_slice.ensures c.in_ok-own.ensures.is c.in_ok-later.ensures.is ends is)
    c.with_arm.ensures.status c.with_arm.ensures.said
