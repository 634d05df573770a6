use Rattle.anb_openings.proofs.Spoiling.{spoilt_stops}
use Rattle.anb_openings.proofs.laws.spoilt_stops.Goals as goal

pub returns : goal.returns
returns c = spoilt_stops
