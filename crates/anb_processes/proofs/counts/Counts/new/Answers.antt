use Rattle.anb_processes.proofs.Zeros.{zero_at}
use Rattle.anb_processes.proofs.counts.Counts.new.Goals as goal

pub returns : goal.returns
returns c = λ role. zero_at 32 role
