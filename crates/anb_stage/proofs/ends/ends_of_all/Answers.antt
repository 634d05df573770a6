use Rattle.anb_protocol.specs.Views.{action_value}
use Rattle.anb_stage.specs.Relays.{ends_of}
use Rattle.anb_stage.proofs.Messages.{mapped_next}
use Rattle.anb_stage.proofs.ends.ends_of_all.Goals as goal

pub loop-action-preserved : goal.loop-action-preserved
loop-action-preserved c =
    mapped_next action_value ends_of c.loop-action.all.items c.push.new.self.items c.args.actions.now c.loop-action.action-index c.action-item.result
    c.loop-action-test.true c.action-item.is c.loop-action.invariant c.in_ok-push.ensures.items
