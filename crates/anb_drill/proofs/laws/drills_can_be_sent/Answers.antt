use Rattle.anb_drill.proofs.Walking.{sendable}
use Rattle.anb_drill.proofs.laws.drills_can_be_sent.Goals as goal

pub returns : goal.returns
returns c = sendable
