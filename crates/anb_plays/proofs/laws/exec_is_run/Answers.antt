use Rattle.anb_plays.proofs.Exec.{exec_is_run}
use Rattle.anb_plays.proofs.laws.exec_is_run.Goals as goal

pub returns : goal.returns
returns g c = exec_is_run (g.A.Algebra.meaning c.args.a.now) (g.met.A.Algebra.lawful c.args.a.now)
