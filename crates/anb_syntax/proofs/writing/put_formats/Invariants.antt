use Rattle.std.proofs.Common.{◌≡◌, ◌++◌, map, drop}
use Rattle.std.specs.List.{flat_map}
use Rattle.anb_syntax.specs.Canon.{all_bytes, lay_format}
use Rattle.anb_syntax.specs.Views.{format_of}
use Rattle.anb_syntax.proofs.writing.put_formats.Given as goal

abbrev pub invariant-loop-item : goal.invariant-loop-item
invariant-loop-item l = l.out.items ++ all_bytes (flat_map lay_format (map format_of (drop l.item-index l.formats.items))) ≡ l.initial.out.items ++ all_bytes (flat_map lay_format (map format_of l.formats.items))
