use Rattle.anb_basis.proofs.Exact.{in_terms, justified}
use Rattle.anb_basis.proofs.laws.checks_are_justified.Goals as goal

pub returns-clause-in_terms : goal.returns-clause-in_terms
returns-clause-in_terms g c es cs known fits = in_terms (g.A.Algebra.meaning c.args.a.now) es cs known fits

pub returns-clause-justified : goal.returns-clause-justified
returns-clause-justified g c es cs known fits = justified (g.A.Algebra.meaning c.args.a.now) es cs known (g.met.A.Algebra.lawful c.args.a.now) fits
