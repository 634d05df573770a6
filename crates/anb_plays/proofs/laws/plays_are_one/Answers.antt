use Rattle.anb_plays.proofs.Plays.{plays_are_one}
use Rattle.anb_plays.proofs.laws.plays_are_one.Goals as goal

pub returns : goal.returns
returns g c = plays_are_one (g.A.Algebra.meaning c.args.a.now)
