use Rattle.anb_term.proofs.Values.{one_value, builds_by_own, undoes_by_own, give_values}
use Rattle.anb_term.proofs.laws.recipes_have_one_value.Goals as goal

pub returns-clause-one : goal.returns-clause-one
returns-clause-one g c = one_value (g.A.Algebra.meaning c.args.a.now)

pub returns-clause-builds : goal.returns-clause-builds
returns-clause-builds g c = builds_by_own (g.A.Algebra.meaning c.args.a.now)

pub returns-clause-undoes : goal.returns-clause-undoes
returns-clause-undoes g c = undoes_by_own (g.A.Algebra.meaning c.args.a.now) (g.met.A.Algebra.lawful c.args.a.now)

pub returns-clause-values : goal.returns-clause-values
returns-clause-values g c = give_values (g.A.Algebra.meaning c.args.a.now) (g.met.A.Algebra.lawful c.args.a.now)
