use Rattle.anb_text.proofs.Progress.{stuck_there}
use Rattle.anb_text.proofs.loading.read_on.Goals as goal

pub returns-in-Some-clause-none : goal.returns-in-Some-clause-none
returns-in-Some-clause-none c = stuck_there c.args.stage c.args.line.now c.in-Some.line _ (rw c.in-Some.is at c.in_ok-line.ensures.some) c.stage_after.ensures
