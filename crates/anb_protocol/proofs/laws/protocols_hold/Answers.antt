use Rattle.anb_protocol.proofs.Holds.{holds}
use Rattle.anb_protocol.proofs.laws.protocols_hold.Goals as goal

pub returns : goal.returns
returns c = holds
