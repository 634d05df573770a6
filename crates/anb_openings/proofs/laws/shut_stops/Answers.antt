use Rattle.anb_openings.proofs.Shutting.{shut_stops}
use Rattle.anb_openings.proofs.laws.shut_stops.Goals as goal

pub returns : goal.returns
returns g c = shut_stops (g.A.Algebra.meaning c.args.a.now) (g.met.A.Algebra.lawful c.args.a.now) c.exec_is_run.ensures c.honest_agree.ensures
