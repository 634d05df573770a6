use Rattle.std.proofs.Common.{◌≡◌, drop}
use Rattle.anb_spoil.specs.Rows.{has_rest}
use Rattle.anb_spoil.proofs.rows.has_rest.Given as goal

abbrev pub invariant-loop-piece : goal.invariant-loop-piece
invariant-loop-piece l = has_rest (drop l.piece-index l.pieces) ≡ has_rest l.pieces
