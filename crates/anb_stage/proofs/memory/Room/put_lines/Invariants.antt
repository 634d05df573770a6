use Rattle.std.proofs.Common.{◌≡◌, ◌++◌, take}
use Rattle.anb_stage.specs.Children.{lines}
use Rattle.anb_stage.proofs.memory.Room.put_lines.Given as goal

abbrev pub invariant-loop-word : goal.invariant-loop-word
invariant-loop-word l =
    (l.self.bytes.items ≡ l.initial.self.bytes.items ++ lines (take l.word-index l.words))
    × (l.self.limit ≡ l.initial.self.limit)
