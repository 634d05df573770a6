use Rattle.std.proofs.Common.{map, ap, ◌∙◌}
use Rattle.anb_protocol.specs.Views.{plan_event}
use Rattle.anb_choice.specs.Lawful.{received_format}
use Rattle.anb_choice.proofs.Events.{arm_seen}
use Rattle.anb_choice.proofs.blindness.told_by.Goals as goal

pub returns : goal.returns
returns c = c.received_format.ensures ∙ ap received_format (ap (map plan_event) c.behind.ensures
    ∙ arm_seen c.args.stem _ c.events-events.result.now c.stem_len.result (c.events-events.ensures ∙ c.in_ok-plan.ensures) c.stem_len.ensures.len)
