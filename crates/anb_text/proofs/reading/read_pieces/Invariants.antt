use Rattle.std.proofs.Common.{length}
use Rattle.anb_text.proofs.ReadFacts.{IsCut}
use Rattle.anb_text.proofs.reading.read_pieces.Given as goal

abbrev pub invariant-loop-rest : goal.invariant-loop-rest
invariant-loop-rest l = IsCut l.text l.pieces.items l.rest

abbrev pub decreases-loop-rest : goal.decreases-loop-rest
decreases-loop-rest l = length l.rest
