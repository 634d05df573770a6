use Rattle.std.proofs.Common.{length}
use Rattle.anb_check_commands.proofs.choices.+verdict_on_each.Given as goal

abbrev pub decreases-verdict_on_each : goal.decreases-verdict_on_each
decreases-verdict_on_each l = length l.texts.now
