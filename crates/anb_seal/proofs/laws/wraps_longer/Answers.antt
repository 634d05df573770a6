use Rattle.anb_seal.specs.Primitives.{wrapped, hash_of, key_for}
use Rattle.anb_seal.proofs.Closed.{length-closed}
use Rattle.anb_seal.proofs.laws.wraps_longer.Goals as goal

pub returns : goal.returns
unfolding wrapped
returns c suite k d m = length-closed suite (key_for suite 3 k) (key_for suite 4 k) (hash_of suite d) m
