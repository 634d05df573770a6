use Rattle.anb_trace.proofs.Ending.{traces_tell}
use Rattle.anb_trace.proofs.laws.traces_tell_runs.Goals as goal

pub returns : goal.returns
returns c = traces_tell
