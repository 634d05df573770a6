use Rattle.anb_values.proofs.Outcomes.{one_fit}
use Rattle.anb_values.proofs.one_fit.Goals as goal

pub returns : goal.returns
returns c = one_fit
