use Rattle.anb_judge.proofs.Played.{observed_are_conversations}
use Rattle.anb_judge.proofs.laws.observed_are_conversations.Goals as goal

pub returns : goal.returns
returns g c = observed_are_conversations (g.A.Algebra.meaning c.args.a.now) c.recipes_have_one_value.ensures.values
