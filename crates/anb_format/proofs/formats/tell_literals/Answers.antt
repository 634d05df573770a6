use Rattle.anb_format.proofs.ReadingLemmas.{one_piece_more}
use Rattle.anb_format.proofs.formats.tell_literals.Goals as goal

pub loop-piece-preserved : goal.loop-piece-preserved
loop-piece-preserved c = one_piece_more c.args.pieces.now c.loop-piece.piece-index c.piece-item.result c.loop-piece-test.true c.piece-item.is c.tell_literal.ensures c.loop-piece.invariant
