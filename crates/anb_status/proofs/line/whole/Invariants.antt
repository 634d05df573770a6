use Rattle.std.proofs.Common.{◌≡◌, take}
use Rattle.anb_status.specs.Pieces.{joined}
use Rattle.anb_status.proofs.line.whole.Given as goal

abbrev pub invariant-loop-piece : goal.invariant-loop-piece
invariant-loop-piece l = l.line.bytes ≡ joined (take l.piece-index l.pieces)
