use Rattle.anb_choice.proofs.Uniqueness.{arm_texts_one, choice_untold}
use Rattle.anb_choice.proofs.laws.arm_texts_are_unique.Goals as goal

pub returns-clause-texts : goal.returns-clause-texts
returns-clause-texts c = arm_texts_one c.tokens_are_unique.ensures c.narrations_are_unique.ensures

pub returns-clause-untold : goal.returns-clause-untold
returns-clause-untold c = choice_untold c.tokens_are_unique.ensures c.narrations_are_unique.ensures c.none_is_both.ensures
