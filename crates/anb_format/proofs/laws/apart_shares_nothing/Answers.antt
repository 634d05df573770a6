use Rattle.anb_format.proofs.ApartLemmas.{nothing_shared}
use Rattle.anb_format.proofs.laws.apart_shares_nothing.Goals as goal

pub returns : goal.returns
returns c = nothing_shared
