use Rattle.std.proofs.Common.{◌≡◌, ◌<◌, ◌^◌, ◌++◌, map, drop, length}
use Rattle.std.specs.List.{AllByRecursion}
use Rattle.anb_format.specs.Formats.{IsSound}
use Rattle.anb_syntax.specs.Grammar.{FormatItem}
use Rattle.anb_syntax.specs.Views.{format_of}
use Rattle.anb_protocol.specs.Protocols.{format_value}
use Rattle.anb_resolve.proofs.shapes.formats_of.Given as goal

abbrev pub invariant-loop-item : goal.invariant-loop-item
invariant-loop-item l = record {
  few : AllByRecursion (λ (f : FormatItem). length f.pieces < 2 ^ 32) (map format_of (drop l.item-index l.items));
  sound : AllByRecursion (λ (f : FormatItem). IsSound f.pieces) (map format_of (drop l.item-index l.items));
  same : l.formats.items ++ map format_value (map format_of (drop l.item-index l.items)) ≡ map format_value (map format_of l.items);
}
