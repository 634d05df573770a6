use Rattle.anb_host.proofs.Reading.{some_reading, one_reading}
use Rattle.anb_host.proofs.laws.inputs_have_one_reading.Goals as goal

pub returns-clause-exists : goal.returns-clause-exists
returns-clause-exists c = λ x bytes. some_reading x bytes

pub returns-clause-unique : goal.returns-clause-unique
returns-clause-unique c = λ x events others tail other p q. one_reading x events others tail other p q
