use Rattle.anb_code.proofs.Widening.{wider_accepts}
use Rattle.anb_code.proofs.laws.wider_limits_accept.Goals as goal

pub returns-clause-fourfold : goal.returns-clause-fourfold
returns-clause-fourfold c = wider_accepts

pub returns-clause-quarter : goal.returns-clause-quarter
returns-clause-quarter c = wider_accepts 65536 16777216
