use Rattle.anb_seal.proofs.SealLemmas.{unwrapped_exactly}
use Rattle.anb_seal.proofs.laws.unwraps_exactly.Goals as goal

pub returns : goal.returns
returns c = unwrapped_exactly
