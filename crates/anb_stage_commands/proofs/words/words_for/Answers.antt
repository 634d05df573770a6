use Rattle.std.proofs.Common.{None}
use Rattle.anb_stage.specs.Words.{asked_by}
use Rattle.anb_stage_commands.specs.Asking.{staged}
use Rattle.anb_stage_commands.specs.Words.{asked_for}
use Rattle.anb_stage_commands.proofs.Lists.{viewed_next}
use Rattle.anb_stage_commands.proofs.words.words_for.Goals as goal

pub loop-role-preserved : goal.loop-role-preserved
loop-role-preserved c =
    viewed_next (asked_by c.args.words.limit) (asked_for (staged c.args.words) None) c.args.roles.now c.loop-role.role-index c.role-item.result c.loop-role.all.items c.push.new.self.items
    c.in_ok-folder_words.field-0 c.loop-role-test.true c.role-item.is c.loop-role.invariant c.in_ok-push.ensures.items c.in_ok-folder_words.ensures
