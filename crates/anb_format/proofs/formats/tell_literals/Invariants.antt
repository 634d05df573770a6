use Rattle.std.proofs.Common.{take}
use Rattle.std.specs.List.{AllByRecursion}
use Rattle.anb_format.specs.Formats.{IsBytesPiece}
use Rattle.anb_format.proofs.formats.tell_literals.Given as goal

abbrev pub invariant-loop-piece : goal.invariant-loop-piece
invariant-loop-piece l = AllByRecursion IsBytesPiece (take l.piece-index l.pieces)
