use Rattle.anb_spoil.proofs.Respoilt.{wrongs_differ}
use Rattle.anb_spoil.proofs.laws.wrongs_differ.Goals as goal

pub returns : goal.returns
returns c = wrongs_differ
