use Rattle.anb_syntax.proofs.Unique.{lexes_once}
use Rattle.anb_syntax.proofs.laws.tokens_are_unique.Goals as goal

pub returns : goal.returns
returns c x ts us h k = lexes_once 0 x ts us h k
