use Rattle.anb_read.proofs.Answering.{not_both}
use Rattle.anb_read.proofs.reader.none_is_both.Goals as goal

pub returns : goal.returns
returns c = not_both
