use Rattle.std.proofs.Common.{refl, sym, ◌∙◌, inl, inr}
use Rattle.anb_lemmas.proofs.Results.{if_ok_map}
use Rattle.anb_choice.specs.Views.{branched_of}
use Rattle.anb_check_commands.proofs.choices.verdict_on_choice.Goals as goal

pub verdict_on_arms-requires-clause-ordered : goal.verdict_on_arms-requires-clause-ordered
verdict_on_arms-requires-clause-ordered c = (c.requires.tells.marks, c.requires.tells.spans, c.requires.tells.ordered)

pub fault_said-requires-clause-ordered : goal.fault_said-requires-clause-ordered
fault_said-requires-clause-ordered c = (c.requires.tells.marks, c.requires.tells.spans, c.requires.tells.ordered)

pub returns-in-None-clause-is : goal.returns-in-None-clause-is
returns-in-None-clause-is c =
    let b = branched_of c.args.b.now in
    if_ok_map c.verdict_on_arms.result _ _
    (λ v on. inr (inr (b, c.requires.tells, c.faultless_is_lawful.ensures c.args.text.now b c.requires.tells (sym c.in_ok-fault.ensures ∙ c.in-None.is), on))) c.verdict_on_arms.ensures.is

pub returns-in_ok-said-in-Some-clause-is : goal.returns-in_ok-said-in-Some-clause-is
returns-in_ok-said-in-Some-clause-is c =
    inr (inl (branched_of c.args.b.now, c.in-Some.no, c.requires.tells, sym c.in_ok-fault.ensures ∙ c.in-Some.is, refl, c.in_ok-said-in-Some.ensures))
