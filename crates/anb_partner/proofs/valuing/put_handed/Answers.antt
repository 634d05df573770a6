use Rattle.std.proofs.Common.{length, ap, arith, ◌∙◌}
use Rattle.std.proofs.lemmas.List.{length-map}
use Rattle.anb_protocol.specs.Views.{plan_event}
use Rattle.anb_compile.proofs.Protocols.{plan_is}
use Rattle.anb_partner.proofs.valuing.put_handed.Goals as goal

pub count_made-requires : goal.count_made-requires
count_made-requires c =
    let short = (plan_is c.args.p.now c.args.other c.requires.holds).short in
    omega (arith, short, ap length (c.events.ensures ∙ c.in_ok-plan.ensures.plan), length-map c.events.result.now plan_event)
