use Rattle.anb_protocol.proofs.Holds.{holds}
use Rattle.anb_protocol.proofs.PlanTerms.{plan_of_terms}
use Rattle.anb_protocol.proofs.laws.terms_of_plans.Goals as goal

pub returns : goal.returns
returns c p role is = plan_of_terms p role (holds p is).terms
