use Rattle.anb_read.proofs.Answering.{narrations_unique}
use Rattle.anb_read.proofs.reader.narrations_are_unique.Goals as goal

pub returns : goal.returns
returns c = narrations_unique
