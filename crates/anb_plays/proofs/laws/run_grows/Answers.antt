use Rattle.anb_plays.proofs.Grows.{run_grows}
use Rattle.anb_plays.proofs.laws.run_grows.Goals as goal

pub returns : goal.returns
returns g c = run_grows (g.A.Algebra.meaning c.args.a.now)
