use Rattle.anb_resolve.proofs.Small.{small_countable}
use Rattle.anb_resolve.proofs.laws.small_is_countable.Goals as goal

pub returns : goal.returns
returns c = small_countable
