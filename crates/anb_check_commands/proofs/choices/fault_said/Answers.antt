use Rattle.std.proofs.Common.{List, ℕ, ap, sym, ◌∙◌, subst}
use Rattle.anb_lemmas.proofs.Results.{if_ok_map}
use Rattle.anb_read.specs.Refusals.{offset}
use Rattle.anb_outcomes.specs.declared.choices.BranchNo.{BranchNo}
use Rattle.anb_choice.specs.Views.{branched_of}
use Rattle.anb_mistakes.specs.Pointing.{pointed}
use Rattle.anb_check_commands.specs.CheckCommand.{IsFaultSaid}
use Rattle.anb_check_commands.specs.ChoiceLines.{roles_mend}
use Rattle.anb_check_commands.proofs.Choosing.{elsewhere}
use Rattle.anb_check_commands.proofs.choices.fault_said.Goals as goal

pub returns-in-Blind : goal.returns-in-Blind
returns-in-Blind c =
    if_ok_map c.blind_said.result _ _
    (λ said is. subst (λ (w : BranchNo). IsFaultSaid c.args.name.now c.args.text.now c.args.why (branched_of c.args.b.now) w said) (sym c.in-Blind.is) is) c.blind_said.ensures

pub returns-in_ok-line-in_default : goal.returns-in_ok-line-in_default
returns-in_ok-line-in_default c =
    let name = c.args.name.now in
    let x = c.args.text.now in
    if_ok_map c.said_at_choice.result _ _
    (λ said is. elsewhere name x c.args.why (branched_of c.args.b.now) c.args.no.now said c.in_default.not-Blind
    (is ∙ ap (λ (l : List ℕ). pointed name x (offset c.args.why) l roles_mend) (c.deref.ensures.value ∙ c.in_ok-line-in_default.ensures))) c.said_at_choice.ensures
