use Rattle.anb_openings.proofs.Retagging.{retagged_seal_stops}
use Rattle.anb_openings.proofs.laws.retagged_seal_stops.Goals as goal

pub returns : goal.returns
returns c = retagged_seal_stops
