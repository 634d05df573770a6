use Rattle.std.proofs.Common.{◌≡◌, ◌+◌, ℕ, List, drop, length}
use Rattle.std.specs.List.{AllByRecursion}
use Rattle.anb_base.specs.Bytes.{IsBytes}
use Rattle.anb_format.specs.Formats.{HasParts, IsParts, field_count}
use Rattle.anb_format.proofs.ReadingLemmas.{RestIsLast}
use Rattle.anb_format.proofs.formats.arguments_at.Given as goal

abbrev pub invariant-loop-piece : goal.invariant-loop-piece
invariant-loop-piece l =
    let pieces = drop l.piece-index l.pieces in record {
      last : RestIsLast pieces;
      count : length l.arguments.items + field_count pieces ≡ field_count l.pieces;
      strings : AllByRecursion IsBytes l.arguments.items;
      again : (wanted : List (List ℕ)) → IsParts l.pieces l.bytes wanted → HasParts pieces l.rest l.arguments.items wanted;
    }
