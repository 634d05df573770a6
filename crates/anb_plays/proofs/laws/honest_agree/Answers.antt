use Rattle.anb_plays.proofs.Honest.{honest_agree}
use Rattle.anb_plays.proofs.laws.honest_agree.Goals as goal

pub returns : goal.returns
returns g c = honest_agree (g.A.Algebra.meaning c.args.a.now) (g.met.A.Algebra.lawful c.args.a.now)
