use Rattle.anb_certify.proofs.Fitting.{certified_fits}
use Rattle.anb_certify.proofs.laws.certified_fits.Goals as goal

pub returns : goal.returns
returns g c = certified_fits (g.A.Algebra.meaning c.args.a.now) (g.met.A.Algebra.lawful c.args.a.now)
