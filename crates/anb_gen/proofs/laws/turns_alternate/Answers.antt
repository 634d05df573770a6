use Rattle.anb_gen.proofs.Alternating.{alternates}
use Rattle.anb_gen.proofs.laws.turns_alternate.Goals as goal

pub returns : goal.returns
returns c = alternates
