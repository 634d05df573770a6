use Rattle.anb_probe.proofs.InPlace.{differs_in_place}
use Rattle.anb_probe.proofs.laws.differs_in_place.Goals as goal

pub returns : goal.returns
returns g c = differs_in_place (g.A.Algebra.meaning c.args.a.now) (g.met.A.Algebra.lawful c.args.a.now) c.honest_agree.ensures c.stops_there.ensures
