-- A solution of the rest has one term at both registers.
use Rattle.anb_distinguish.proofs.Sides.{same_sides_are_implied}
use Rattle.anb_distinguish.proofs.laws.same_sides_are_implied.Goals as goal

pub returns : goal.returns
returns c = same_sides_are_implied
