use Rattle.anb_park.proofs.Bodies.{records_apart}
use Rattle.anb_park.proofs.laws.records_are_apart.Goals as goal

pub returns : goal.returns
returns c = λ takes key p q sp sq e. records_apart takes key p q sp sq e
