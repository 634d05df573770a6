use Rattle.std.proofs.Common.{[]}
use Rattle.anb_seal.specs.Primitives.{sealed, key_for}
use Rattle.anb_seal.proofs.Closed.{length-closed}
use Rattle.anb_seal.proofs.laws.seals_longer.Goals as goal

pub returns : goal.returns
unfolding sealed
returns c suite k m = length-closed suite (key_for suite 1 k) (key_for suite 2 k) [] m
