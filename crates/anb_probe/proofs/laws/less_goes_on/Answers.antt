use Rattle.anb_probe.proofs.Following.{less_goes_on}
use Rattle.anb_probe.proofs.laws.less_goes_on.Goals as goal

pub returns : goal.returns
returns g c = less_goes_on (g.A.Algebra.meaning c.args.a.now) c.honest_agree.ensures c.demands_hold.ensures
