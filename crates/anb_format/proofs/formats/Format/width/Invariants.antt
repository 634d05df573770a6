use Rattle.std.proofs.Common.{◌≡◌, ◌+◌, drop, length}
use Rattle.std.specs.Prelude.{min}
use Rattle.anb_format.specs.Formats.{field_count}
use Rattle.anb_format.specs.Widths.{pieces_width}
use Rattle.anb_format.proofs.formats.Format.width.Given as goal

abbrev pub invariant-loop-piece : goal.invariant-loop-piece
invariant-loop-piece l =
    let rest = drop l.piece-index l.piece-items in record {
      count : length l.left ≡ field_count rest;
      sum : min (l.sum + pieces_width rest l.left) 18446744073709551615 ≡ min (pieces_width l.piece-items l.widths) 18446744073709551615;
    }
