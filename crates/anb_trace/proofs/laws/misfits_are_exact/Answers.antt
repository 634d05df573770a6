use Rattle.anb_trace.proofs.Exact.{exact}
use Rattle.anb_trace.proofs.laws.misfits_are_exact.Goals as goal

pub returns : goal.returns
returns c = exact
