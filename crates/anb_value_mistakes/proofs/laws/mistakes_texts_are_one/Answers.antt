use Rattle.anb_value_mistakes.proofs.Exact.{texts_are_one}
use Rattle.anb_value_mistakes.proofs.laws.mistakes_texts_are_one.Goals as goal

pub returns : goal.returns
returns c = texts_are_one
