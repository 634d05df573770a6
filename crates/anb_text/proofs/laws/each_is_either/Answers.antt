use Rattle.anb_text.proofs.Either.{either}
use Rattle.anb_text.proofs.laws.each_is_either.Goals as goal

pub returns : goal.returns
returns c = either
