use Rattle.anb_honest.proofs.Differing.{known_names_apart}
use Rattle.anb_honest.proofs.laws.known_names_differ.Goals as goal

pub returns : goal.returns
returns c = known_names_apart
