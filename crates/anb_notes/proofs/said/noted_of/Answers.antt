use Rattle.std.proofs.Common.{List, sym, ◌∙◌, subst}
use Rattle.std.specs.List.{AllByRecursion}
use Rattle.anb_protocol.specs.Plans.{PlanEvent, term_in}
use Rattle.anb_protocol.specs.Texts.{IsTermOf}
use Rattle.anb_notes.proofs.said.noted_of.Goals as goal

pub idle_names-requires : goal.idle_names-requires
idle_names-requires c =
    let p = c.args.protocol.now in
    subst (λ (l : List PlanEvent). AllByRecursion (λ e. IsTermOf p (term_in e)) l) (sym (c.events.ensures ∙ c.in_ok-plan.ensures.plan)) (c.terms_of_plans.ensures p c.args.role c.in_ok-plan.ensures.protocol)
