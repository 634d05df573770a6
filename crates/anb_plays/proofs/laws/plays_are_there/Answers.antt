use Rattle.anb_plays.proofs.There.{plays_are_there}
use Rattle.anb_plays.proofs.laws.plays_are_there.Goals as goal

pub returns : goal.returns
returns g c = plays_are_there (g.A.Algebra.meaning c.args.a.now) c.new_atom_agrees.ensures
