use Rattle.std.proofs.Common.{[]}
use Rattle.anb_status.proofs.Lines.{prefix_within, joined_at, on_err}
use Rattle.anb_status.proofs.line.write_pieces.Goals as goal

pub returns-in_err-write_whole-clause-failed : goal.returns-in_err-write_whole-clause-failed
returns-in_err-write_whole-clause-failed g c =
    let whole = joined_at c.args.pieces.now c.loop-piece.piece-index record { ref_ptr = (0, 0); now = [] } c.loop-piece-test.true in
    on_err c.from_residual.result (prefix_within _ _ _ _ _ _ _ whole c.loop-piece.invariant.put (rw c.as_bytes.ensures.value at c.in_err-write_whole.ensures.failed))
