use Rattle.std.proofs.Common.{◌≡◌, ◌≤◌, ◌+◌, drop, length}
use Rattle.anb_trace.specs.Misfits.{misfit, misfit_from}
use Rattle.anb_trace.proofs.misfits.put_misfit.Given as goal

abbrev pub invariant-loop-piece : goal.invariant-loop-piece
invariant-loop-piece l = record {
  kept : l.out.items ≡ l.fn.out.items;
  left : misfit l.pieces l.bytes ≡ misfit_from (length l.bytes) l.field (drop l.piece-index l.pieces) l.rest;
  few : l.field ≤ l.piece-index + 1;
}
