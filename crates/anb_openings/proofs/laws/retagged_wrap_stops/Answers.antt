use Rattle.anb_openings.proofs.Retagging.{retagged_wrap_stops}
use Rattle.anb_openings.proofs.laws.retagged_wrap_stops.Goals as goal

pub returns : goal.returns
returns c = retagged_wrap_stops
