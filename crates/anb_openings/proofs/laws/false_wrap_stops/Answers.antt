use Rattle.anb_openings.proofs.Spoiling.{false_wrap_stops}
use Rattle.anb_openings.proofs.laws.false_wrap_stops.Goals as goal

pub returns : goal.returns
returns c = false_wrap_stops
