use Rattle.anb_probed.proofs.Played.{case_is}
use Rattle.anb_probed.proofs.laws.cases_are_attempts.Goals as goal

pub returns : goal.returns
returns c = case_is c.args.p.now (c.protocols_hold.ensures c.args.p.now c.name.ensures.protocol) (λ role. c.terms_of_plans.ensures c.args.p.now role c.name.ensures.protocol) c.values_are_of_names.ensures
