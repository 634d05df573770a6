use Rattle.anb_value_mistakes.proofs.Exact.{mistakes_are_faults}
use Rattle.anb_value_mistakes.proofs.laws.mistakes_are_faults.Goals as goal

pub returns : goal.returns
returns c = mistakes_are_faults
