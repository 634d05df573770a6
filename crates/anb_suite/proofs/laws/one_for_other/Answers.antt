use Rattle.anb_suite.proofs.Behind.{one_differs, one_goes_on, one_stops}
use Rattle.anb_suite.proofs.laws.one_for_other.Goals as goal

pub returns-clause-goes_on : goal.returns-clause-goes_on
returns-clause-goes_on g c = one_goes_on (g.A.Algebra.meaning c.args.a.now) c.less_goes_on.ensures

pub returns-clause-stops : goal.returns-clause-stops
returns-clause-stops g c = one_stops (g.A.Algebra.meaning c.args.a.now) c.stops_there.ensures

pub returns-clause-in_place : goal.returns-clause-in_place
returns-clause-in_place g c = one_differs (g.A.Algebra.meaning c.args.a.now) c.differs_in_place.ensures
