use Rattle.anb_trace.proofs.Closed.{innermost_closed}
use Rattle.anb_trace.proofs.laws.innermost_stays_closed.Goals as goal

pub returns : goal.returns
returns c = innermost_closed
