use Rattle.anb_read.proofs.Either.{either}
use Rattle.anb_read.proofs.reader.each_is_either.Goals as goal

pub returns : goal.returns
returns c = either
