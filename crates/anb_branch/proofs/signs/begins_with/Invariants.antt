use Rattle.anb_branch.proofs.Heads.{Begins}
use Rattle.anb_branch.proofs.signs.begins_with.Given as goal

abbrev pub invariant-loop-piece : goal.invariant-loop-piece
invariant-loop-piece l = Begins l.bytes l.pieces l.rest l.piece-index
