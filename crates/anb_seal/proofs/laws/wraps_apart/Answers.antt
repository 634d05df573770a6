use Rattle.anb_seal.specs.Primitives.{wrapped, hash_of, key_for}
use Rattle.anb_seal.proofs.Closed.{closed_apart}
use Rattle.anb_seal.proofs.laws.wraps_apart.Goals as goal

pub returns : goal.returns
unfolding wrapped
returns c suite k d m n e = closed_apart suite (key_for suite 3 k) (key_for suite 4 k) (hash_of suite d) m n e
