use Rattle.anb_processes.proofs.Fresh.{fresh_at}
use Rattle.anb_processes.proofs.trials.fresh_cases.Goals as goal

pub returns-in-Ok : goal.returns-in-Ok
returns-in-Ok c = λ case. rw c.in-Ok.ensures (fresh_at 4096 case)
