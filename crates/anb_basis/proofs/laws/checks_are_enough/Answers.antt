use Rattle.anb_basis.proofs.Exact.{enough}
use Rattle.anb_basis.proofs.laws.checks_are_enough.Goals as goal

pub returns : goal.returns
returns g c es cs known all = enough (g.A.Algebra.meaning c.args.a.now) es cs known (g.met.A.Algebra.lawful c.args.a.now) all
