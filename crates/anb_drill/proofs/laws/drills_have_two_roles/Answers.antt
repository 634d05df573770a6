use Rattle.anb_drill.proofs.WellFormed.{protocol_roles_are}
use Rattle.anb_drill.proofs.laws.drills_have_two_roles.Goals as goal

pub returns : goal.returns
returns c = protocol_roles_are
