use Rattle.anb_openings.proofs.Shutting.{taken_goes_on}
use Rattle.anb_openings.proofs.laws.taken_goes_on.Goals as goal

pub returns : goal.returns
returns g c = taken_goes_on (g.A.Algebra.meaning c.args.a.now) (g.met.A.Algebra.lawful c.args.a.now) c.honest_agree.ensures
