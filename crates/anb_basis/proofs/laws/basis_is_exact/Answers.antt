use Rattle.anb_basis.proofs.Exact.{in_terms, enough, justified}
use Rattle.anb_basis.proofs.laws.basis_is_exact.Goals as goal

pub returns-clause-in_terms : goal.returns-clause-in_terms
returns-clause-in_terms g c = in_terms (g.A.Algebra.meaning c.args.a.now) c.args.basis.now.0 c.args.basis.now.1 c.given.ensures.known c.given.ensures.fit

pub returns-clause-enough : goal.returns-clause-enough
returns-clause-enough g c = enough (g.A.Algebra.meaning c.args.a.now) c.args.basis.now.0 c.args.basis.now.1 c.given.ensures.known (g.met.A.Algebra.lawful c.args.a.now) c.given.ensures.all

pub returns-clause-justified : goal.returns-clause-justified
returns-clause-justified g c = justified (g.A.Algebra.meaning c.args.a.now) c.args.basis.now.0 c.args.basis.now.1 c.given.ensures.known (g.met.A.Algebra.lawful c.args.a.now) c.given.ensures.fit
