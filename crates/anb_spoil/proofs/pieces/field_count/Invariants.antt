use Rattle.std.proofs.Common.{◌≡◌, ◌+◌, ◌≤◌, drop}
use Rattle.anb_format.specs.Formats.{field_count}
use Rattle.anb_spoil.proofs.pieces.field_count.Given as goal

abbrev pub invariant-loop-piece : goal.invariant-loop-piece
invariant-loop-piece l = record { counted : l.count + field_count (drop l.piece-index l.pieces) ≡ field_count l.pieces; most : l.count ≤ l.piece-index }
