use Rattle.anb_reason.proofs.reasons.refusal_of.Goals as goal

pub refusal_in_plan-requires-clause-holds : goal.refusal_in_plan-requires-clause-holds
refusal_in_plan-requires-clause-holds c = c.protocols_hold.ensures c.args.p.now c.name.ensures.protocol

pub refusal_in_plan-requires-clause-terms : goal.refusal_in_plan-requires-clause-terms
refusal_in_plan-requires-clause-terms c = c.terms_of_plans.ensures c.args.p.now _ c.name.ensures.protocol
