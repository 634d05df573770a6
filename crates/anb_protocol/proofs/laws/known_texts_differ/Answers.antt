use Rattle.anb_protocol.proofs.Differing.{known_texts_apart}
use Rattle.anb_protocol.proofs.laws.known_texts_differ.Goals as goal

pub returns : goal.returns
returns c = known_texts_apart
