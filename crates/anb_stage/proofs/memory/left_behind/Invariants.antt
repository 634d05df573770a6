use Rattle.std.proofs.Common.{◌≡◌, ◌+◌, length, take}
use Rattle.anb_stage.specs.Children.{lines}
use Rattle.anb_stage.proofs.memory.left_behind.Given as goal

abbrev pub invariant-loop-word : goal.invariant-loop-word
invariant-loop-word l = length (lines (take l.word-index l.words)) + l.left ≡ l.fn.left
