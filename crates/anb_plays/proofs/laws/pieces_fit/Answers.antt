use Rattle.anb_plays.proofs.Reaching.{reaches_on, reaches_fit}
use Rattle.anb_plays.proofs.laws.pieces_fit.Goals as goal

pub returns-clause-on : goal.returns-clause-on
returns-clause-on g c = reaches_on (g.A.Algebra.meaning c.args.a.now)

pub returns-clause-fit : goal.returns-clause-fit
returns-clause-fit g c = reaches_fit (g.A.Algebra.meaning c.args.a.now)
