use Rattle.std.proofs.Common.{◌≡◌, ◌++◌, drop, length}
use Rattle.anb_format.specs.Formats.{field_count, format_bytes}
use Rattle.anb_spoil.proofs.pieces.put_pieces.Given as goal

abbrev pub invariant-loop-piece : goal.invariant-loop-piece
invariant-loop-piece l =
    let rest = drop l.piece-index l.pieces in record {
      count : length l.left ≡ field_count rest;
      put : l.out.items ++ format_bytes rest l.left ≡ l.initial.out.items ++ format_bytes l.pieces l.arguments;
    }
