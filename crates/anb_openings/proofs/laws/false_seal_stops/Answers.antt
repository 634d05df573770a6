use Rattle.anb_openings.proofs.Spoiling.{false_seal_stops}
use Rattle.anb_openings.proofs.laws.false_seal_stops.Goals as goal

pub returns : goal.returns
returns c = false_seal_stops
