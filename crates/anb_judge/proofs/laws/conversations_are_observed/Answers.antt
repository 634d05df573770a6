use Rattle.anb_judge.proofs.Observing.{conversations_are_observed}
use Rattle.anb_judge.proofs.laws.conversations_are_observed.Goals as goal

pub returns : goal.returns
returns g c = conversations_are_observed (g.A.Algebra.meaning c.args.a.now) c.new_atom_agrees.ensures
