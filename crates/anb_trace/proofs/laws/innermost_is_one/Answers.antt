use Rattle.anb_trace.proofs.Inward.{innermost_one}
use Rattle.anb_trace.proofs.laws.innermost_is_one.Goals as goal

pub returns : goal.returns
returns c = innermost_one
