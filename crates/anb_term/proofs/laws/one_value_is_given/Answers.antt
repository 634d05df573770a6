use Rattle.anb_term.proofs.Values.{gives_one}
use Rattle.anb_term.proofs.laws.one_value_is_given.Goals as goal

pub returns : goal.returns
returns g c = gives_one (g.A.Algebra.meaning c.args.a.now)
