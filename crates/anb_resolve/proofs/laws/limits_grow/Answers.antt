use Rattle.anb_resolve.proofs.WidthGrowth.{well_formed_grows}
use Rattle.anb_resolve.proofs.laws.limits_grow.Goals as goal

pub returns : goal.returns
returns c = well_formed_grows
