use Rattle.anb_honest.proofs.Scheduling.{complete_tested}
use Rattle.anb_honest.proofs.laws.complete_is_tested.Goals as goal

pub returns : goal.returns
returns c = complete_tested
