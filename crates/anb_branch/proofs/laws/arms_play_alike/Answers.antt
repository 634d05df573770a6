use Rattle.anb_branch.proofs.Agreeing.{arms_alike}
use Rattle.anb_branch.proofs.laws.arms_play_alike.Goals as goal

pub returns : goal.returns
returns c = arms_alike
