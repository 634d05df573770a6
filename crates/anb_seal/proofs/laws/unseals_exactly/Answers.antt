use Rattle.anb_seal.proofs.SealLemmas.{unsealed_exactly}
use Rattle.anb_seal.proofs.laws.unseals_exactly.Goals as goal

pub returns : goal.returns
returns c = unsealed_exactly
