use Rattle.anb_code.proofs.Runnable.{runnable}
use Rattle.anb_code.proofs.laws.verified_is_runnable.Goals as goal

pub returns : goal.returns
returns c = runnable
