use Rattle.anb_drill.proofs.Drilled.{asks_for}
use Rattle.anb_drill.proofs.laws.drills_ask_for.Goals as goal

pub returns : goal.returns
returns c = asks_for
