use Rattle.anb_stage.proofs.Due.{relays_are_due}
use Rattle.anb_stage.proofs.laws.relays_are_due.Goals as goal

pub returns : goal.returns
returns c = relays_are_due
