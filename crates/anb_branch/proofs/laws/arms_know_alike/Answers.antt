use Rattle.anb_branch.proofs.Knowing.{know_alike}
use Rattle.anb_branch.proofs.laws.arms_know_alike.Goals as goal

pub returns : goal.returns
returns c = know_alike
