use Rattle.std.proofs.Common.{◌≡◌, ◌++◌, drop}
use Rattle.anb_mistakes.specs.Mends.{lead}
use Rattle.anb_mistakes.proofs.mends.put_lead.Given as goal

abbrev pub invariant-loop-piece : goal.invariant-loop-piece
invariant-loop-piece l = l.out.items ++ lead (drop l.piece-index l.pieces) ≡ l.fn.out.items ++ lead l.pieces
