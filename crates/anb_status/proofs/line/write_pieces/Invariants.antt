use Rattle.std.proofs.Common.{◌≡◌, ◌≤◌, take}
use Rattle.anb_base.specs.Moves.{Put}
use Rattle.anb_status.specs.Pieces.{joined}
use Rattle.anb_status.proofs.line.write_pieces.Given as goal

abbrev pub invariant-loop-piece : goal.invariant-loop-piece
invariant-loop-piece g l = record {
  put : Put (g.E.Sink.written l.fn.err) (g.E.Sink.written l.err) (joined (take l.piece-index l.pieces));
  never_falls : g.E.Sink.faults l.fn.err ≤ g.E.Sink.faults l.err;
  kept : g.E.Sink.kept l.err ≡ g.E.Sink.kept l.fn.err;
}
