use Rattle.anb_draws.proofs.Told.{one_drawing}
use Rattle.anb_draws.proofs.laws.one_drawing.Goals as goal

pub returns : goal.returns
returns c = one_drawing
