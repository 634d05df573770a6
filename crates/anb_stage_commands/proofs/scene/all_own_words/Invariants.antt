use Rattle.std.proofs.Common.{◌≡◌, ◌++◌, drop}
use Rattle.anb_stage.specs.Words.{asked_lists}
use Rattle.anb_stage_commands.specs.Asking.{staged}
use Rattle.anb_stage_commands.specs.Scenes.{long_from, words_from}
use Rattle.anb_stage_commands.proofs.scene.all_own_words.Given as goal

abbrev pub invariant-loop-role : goal.invariant-loop-role
invariant-loop-role l = record {
  short : long_from l.protocol l.fitted l.role (drop l.role l.protocol.roles) ≡ long_from l.protocol l.fitted 0 l.protocol.roles;
  words : asked_lists l.fn.words.limit l.all.items ++ words_from l.protocol l.fitted (staged l.fn.words) l.role (drop l.role l.protocol.roles)
      ≡ words_from l.protocol l.fitted (staged l.fn.words) 0 l.protocol.roles;
}
