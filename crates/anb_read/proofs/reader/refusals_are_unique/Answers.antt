use Rattle.anb_read.proofs.Answering.{refusals_unique}
use Rattle.anb_read.proofs.reader.refusals_are_unique.Goals as goal

pub returns : goal.returns
returns c = refusals_unique
