use Rattle.anb_choice.proofs.Uniqueness.{choice_one}
use Rattle.anb_choice.proofs.laws.choices_are_unique.Goals as goal

pub returns : goal.returns
returns c = choice_one c.tokens_are_unique.ensures c.narrations_are_unique.ensures
