use Rattle.anb_drill.proofs.WellFormed.{well_formed}
use Rattle.anb_drill.proofs.laws.drills_are_well_formed.Goals as goal

pub returns : goal.returns
returns c = well_formed
