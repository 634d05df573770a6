use Rattle.std.proofs.Common.{◌≡◌, ◌++◌, map, drop}
use Rattle.anb_syntax.specs.Canon.{all_bytes, lay_piece}
use Rattle.anb_syntax.proofs.writing.put_pieces.Given as goal

abbrev pub invariant-loop-piece : goal.invariant-loop-piece
invariant-loop-piece l = l.out.items ++ all_bytes (map lay_piece (drop l.piece-index l.pieces.items)) ≡ l.initial.out.items ++ all_bytes (map lay_piece l.pieces.items)
