use Rattle.std.proofs.Common.{◌≡◌, ◌++◌, length}
use Rattle.anb_format.specs.Formats.{head}
use Rattle.anb_format.proofs.heads.Head.next.Given as goal

abbrev pub invariant-loop-self : goal.invariant-loop-self
invariant-loop-self l = l.self-inside.text.now ++ head l.self-inside.pieces.now ≡ l.fn.self

abbrev pub decreases-loop-self : goal.decreases-loop-self
decreases-loop-self l = length l.self-inside.pieces.now
