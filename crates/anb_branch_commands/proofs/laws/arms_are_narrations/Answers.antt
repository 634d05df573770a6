use Rattle.anb_branch_commands.proofs.Straight.{arms_are_narrations}
use Rattle.anb_branch_commands.proofs.laws.arms_are_narrations.Goals as goal

pub returns : goal.returns
returns c = arms_are_narrations c.arms_know_alike.ensures
