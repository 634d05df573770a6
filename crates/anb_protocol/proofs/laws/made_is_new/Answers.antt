use Rattle.anb_protocol.proofs.PlanLaws.{made_new}
use Rattle.anb_protocol.proofs.laws.made_is_new.Goals as goal

pub returns : goal.returns
returns c = made_new
