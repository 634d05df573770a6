use Rattle.std.proofs.Common.{◌≡◌, ◌<◌, ◌++◌, All, drop, filter_map, length, slice_get}
use Rattle.anb_format.specs.Formats.{field_count, format_bytes}
use Rattle.anb_format.proofs.formats.Format.build.Given as goal

abbrev pub invariant-loop-piece : goal.invariant-loop-piece
invariant-loop-piece l =
    let rest = drop l.piece-index l.piece-items in record {
      within : All (λ i. i < length l.table) l.left;
      count : length l.left ≡ field_count rest;
      put : l.out.items ++ format_bytes rest (filter_map (slice_get l.table) l.left) ≡ format_bytes l.piece-items (filter_map (slice_get l.table) l.at);
    }
