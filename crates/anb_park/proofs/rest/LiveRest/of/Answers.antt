use Rattle.anb_park.proofs.Resting.{rests, session_is}
use Rattle.anb_park.proofs.rest.LiveRest.of.Goals as goal

pub returns-clause-rest : goal.returns-clause-rest
returns-clause-rest c = rests c.live.inside c.args.live c.of.result c.live.view_is c.of.ensures.rest

pub returns-clause-same : goal.returns-clause-same
returns-clause-same c = session_is c.live.inside c.args.live c.of.result c.live.view_is c.of.ensures.same
