use Rattle.anb_plays.proofs.Honest.{honest_agree}
use Rattle.anb_plays.proofs.HonestPlays.{honest_plays}
use Rattle.anb_plays.proofs.laws.honest_plays.Goals as goal

pub returns : goal.returns
returns g c = let m = g.A.Algebra.meaning c.args.a.now in honest_plays m (honest_agree m (g.met.A.Algebra.lawful c.args.a.now))
