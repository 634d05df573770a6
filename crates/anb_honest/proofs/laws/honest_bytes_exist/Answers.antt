use Rattle.anb_honest.proofs.Existing.{are_honest, honest_atom}
use Rattle.anb_honest.proofs.laws.honest_bytes_exist.Goals as goal

pub returns : goal.returns
returns c = λ cast count bytes. (honest_atom cast, are_honest cast count bytes)
