use Rattle.anb_machine.proofs.Sent.{sends_within}
use Rattle.anb_machine.proofs.laws.runs_send_within.Goals as goal

pub returns : goal.returns
returns c = sends_within
