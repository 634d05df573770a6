use Rattle.std.proofs.Common.{◌≡◌, ◌++◌, drop}
use Rattle.anb_stage.specs.Children.{lines}
use Rattle.anb_partner.proofs.memory.put_lines.Given as goal

abbrev pub invariant-loop-word : goal.invariant-loop-word
invariant-loop-word l = l.all.items ++ lines (drop l.word-index l.words) ≡ l.initial.all.items ++ lines l.words
