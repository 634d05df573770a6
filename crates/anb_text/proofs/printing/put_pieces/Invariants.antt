use Rattle.std.proofs.Common.{◌≡◌, ◌++◌, drop}
use Rattle.std.specs.List.{flat_map}
use Rattle.anb_text.specs.Lines.{spaced_piece}
use Rattle.anb_text.proofs.printing.put_pieces.Given as goal

abbrev pub invariant-loop-piece : goal.invariant-loop-piece
invariant-loop-piece l = l.out.items ++ flat_map spaced_piece (drop l.piece-index l.pieces) ≡ l.initial.out.items ++ flat_map spaced_piece l.pieces
