use Rattle.std.proofs.Common.{◌≡◌, ◌+◌, drop}
use Rattle.anb_format.specs.Formats.{field_count}
use Rattle.anb_format.proofs.formats.Format.arity.Given as goal

abbrev pub invariant-loop-piece : goal.invariant-loop-piece
invariant-loop-piece l = l.count + field_count (drop l.piece-index l.piece-items) ≡ field_count l.piece-items
