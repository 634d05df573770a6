-- The play over instances goes on, since instances agree in terms and values follow terms.
use Rattle.anb_accept.proofs.GoingOn.{instances_go_on}
use Rattle.anb_accept.proofs.laws.instances_go_on.Goals as goal

pub returns : goal.returns
returns g c = instances_go_on (g.A.Algebra.meaning c.args.a.now) c.honest_agree.ensures c.one_value_is_given.ensures
