use Rattle.std.proofs.Common.{◌≡◌, take}
use Rattle.anb_stage.specs.Words.{asked_lists}
use Rattle.anb_stage_commands.specs.Asking.{staged}
use Rattle.anb_stage_commands.specs.Words.{words_for}
use Rattle.anb_stage_commands.proofs.words.words_for.Given as goal

abbrev pub invariant-loop-role : goal.invariant-loop-role
invariant-loop-role l = asked_lists l.fn.words.limit l.all.items ≡ words_for (staged l.fn.words) (take l.role-index l.roles)
