use Rattle.std.proofs.Common.{◌≡◌, ◌++◌, map, drop}
use Rattle.std.specs.List.{flat_map}
use Rattle.anb_syntax.specs.Canon.{all_bytes, lay_type}
use Rattle.anb_syntax.specs.Views.{type_of}
use Rattle.anb_syntax.proofs.writing.put_types.Given as goal

abbrev pub invariant-loop-item : goal.invariant-loop-item
invariant-loop-item l = l.out.items ++ all_bytes (flat_map lay_type (map type_of (drop l.item-index l.types.items))) ≡ l.initial.out.items ++ all_bytes (flat_map lay_type (map type_of l.types.items))
