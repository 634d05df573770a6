use Rattle.anb_protocol.proofs.PlanLaws.{knows_first}
use Rattle.anb_protocol.proofs.laws.plans_know_first.Goals as goal

pub returns : goal.returns
returns c = knows_first
