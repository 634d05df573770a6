use Rattle.std.proofs.Common.{arith}
use Rattle.anb_frame.proofs.Cuts.{same_cut, some_cut}
use Rattle.anb_frame.proofs.one_cut.Goals as goal

pub returns-clause-unique : goal.returns-clause-unique
returns-clause-unique c = same_cut c.args.limit (omega arith)

pub returns-clause-exists : goal.returns-clause-exists
returns-clause-exists c = some_cut c.args.limit
