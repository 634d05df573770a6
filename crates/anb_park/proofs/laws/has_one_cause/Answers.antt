use Rattle.anb_park.specs.Records.{count_takes, IsWaiting}
use Rattle.anb_park.proofs.Bodies.{one_cause}
use Rattle.anb_park.proofs.laws.has_one_cause.Goals as goal

pub returns : goal.returns
returns c = λ code id key parked why other r t a b. one_cause (count_takes code) (IsWaiting code) id key parked why other r t a b
