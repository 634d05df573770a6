use Rattle.std.proofs.Common.{◌≡◌, ◌++◌, drop}
use Rattle.anb_spoil.specs.Rows.{rows_from}
use Rattle.anb_spoil.proofs.rows.rows_of.Given as goal

abbrev pub invariant-loop-i : goal.invariant-loop-i
invariant-loop-i l = l.rows.items ++ rows_from l.i (drop l.i l.pieces) ≡ rows_from 0 l.pieces
