use Rattle.anb_probe.proofs.Following.{stops_there}
use Rattle.anb_probe.proofs.laws.stops_there.Goals as goal

pub returns : goal.returns
returns g c = stops_there (g.A.Algebra.meaning c.args.a.now) c.honest_agree.ensures c.demands_hold.ensures
