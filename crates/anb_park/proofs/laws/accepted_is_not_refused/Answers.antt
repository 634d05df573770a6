use Rattle.anb_park.specs.Records.{count_takes, IsWaiting}
use Rattle.anb_park.proofs.Bodies.{not_refused}
use Rattle.anb_park.proofs.laws.accepted_is_not_refused.Goals as goal

pub returns : goal.returns
returns c = λ code id key parked p why a r. not_refused (count_takes code) (IsWaiting code) id key parked p why a r
