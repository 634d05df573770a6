use Rattle.anb_choice.proofs.Uniqueness.{refusal_one}
use Rattle.anb_choice.proofs.laws.branch_refusals_are_unique.Goals as goal

pub returns : goal.returns
returns c = refusal_one c.tokens_are_unique.ensures c.narrations_are_unique.ensures c.none_is_both.ensures c.refusals_are_unique.ensures
