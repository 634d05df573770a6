use Rattle.anb_text.proofs.Unique.{faults}
use Rattle.anb_text.proofs.laws.faults_are_unique.Goals as goal

pub returns : goal.returns
returns c = faults
