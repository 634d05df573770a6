use Rattle.std.proofs.Common.{map}
use Rattle.std.specs.Prelude.{filter}
use Rattle.anb_lemmas.proofs.Each.{each_got}
use Rattle.anb_protocol.specs.Plans.{PlanEvent, term_in}
use Rattle.anb_protocol.specs.Texts.{IsTermOf}
use Rattle.anb_protocol.specs.Views.{plan_event}
use Rattle.anb_explain.specs.Explained.{is_message}
use Rattle.anb_trace.proofs.Placing.{all_kept}
use Rattle.anb_trace.proofs.events.put_event_line.Goals as goal

pub put_event-requires : goal.put_event-requires
put_event-requires c =
    let plan = map plan_event c.args.plan.now in
    let P : PlanEvent → Type 0 = λ e. IsTermOf c.args.protocol.now (term_in e) in
    each_got P (filter is_message plan) c.args.events (plan_event c.in-Some.event.now) (all_kept P is_message plan c.requires) c.in-Some.ensures.some
