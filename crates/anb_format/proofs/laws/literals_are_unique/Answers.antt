use Rattle.anb_format.proofs.LiteralLemmas.{unique}
use Rattle.anb_format.proofs.laws.literals_are_unique.Goals as goal

pub returns : goal.returns
returns c = unique
