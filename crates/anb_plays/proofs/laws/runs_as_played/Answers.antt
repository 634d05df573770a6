use Rattle.anb_plays.proofs.Runs.{runs_as_played}
use Rattle.anb_plays.proofs.laws.runs_as_played.Goals as goal

pub returns : goal.returns
returns g c = runs_as_played (g.A.Algebra.meaning c.args.a.now) (g.met.A.Algebra.lawful c.args.a.now) c.new_atom_agrees.ensures
