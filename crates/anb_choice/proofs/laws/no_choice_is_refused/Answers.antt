use Rattle.anb_choice.proofs.Faults.{lawful_fault}
use Rattle.anb_choice.proofs.Uniqueness.{choice_unrefused}
use Rattle.anb_choice.proofs.laws.no_choice_is_refused.Goals as goal

pub returns : goal.returns
returns c = λ x b why text lawful refused. choice_unrefused c.tokens_are_unique.ensures c.narrations_are_unique.ensures c.none_is_both.ensures x b why text (lawful_fault b lawful) refused
