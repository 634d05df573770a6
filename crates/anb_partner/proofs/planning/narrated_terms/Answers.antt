use Rattle.std.proofs.Common.{List, map, sym, ap, ◌∙◌, subst}
use Rattle.std.specs.List.{AllByRecursion}
use Rattle.anb_plays.specs.Honest.{heard}
use Rattle.anb_protocol.specs.Plans.{PlanEvent}
use Rattle.anb_protocol.specs.Plays.{event_of}
use Rattle.anb_partner.specs.Plans.{MayStand, said}
use Rattle.anb_partner.proofs.Going.{if_ok}
use Rattle.anb_partner.proofs.Planned.{heard_stand, said_stand}
use Rattle.anb_partner.proofs.planning.narrated_terms.Goals as goal

pub returns-clause-heard_stand : goal.returns-clause-heard_stand
returns-clause-heard_stand c =
    let p = c.args.p.now in
    if_ok c.told_in.result _ _ c.told_in.ensures.arrivals (λ narrated e.
    subst (AllByRecursion (MayStand p)) (sym (e ∙ ap (λ (es : List PlanEvent). heard (map event_of es)) c.in_ok-plan.ensures.plan))
    (heard_stand p c.args.role (c.protocols_hold.ensures p c.name.ensures.protocol)))

pub returns-clause-said_stand : goal.returns-clause-said_stand
returns-clause-said_stand c =
    let p = c.args.p.now in
    if_ok c.told_in.result _ _ c.told_in.ensures.messages (λ narrated e.
    subst (AllByRecursion (MayStand p)) (sym (e ∙ ap (λ (es : List PlanEvent). said (map event_of es)) c.in_ok-plan.ensures.plan))
    (said_stand p c.args.role (c.protocols_hold.ensures p c.name.ensures.protocol)))
