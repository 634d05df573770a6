use Rattle.std.proofs.Common.{◌≡◌, ◌++◌, map, drop}
use Rattle.std.specs.List.{flat_map}
use Rattle.anb_syntax.specs.Canon.{all_bytes, lay_know}
use Rattle.anb_syntax.specs.Views.{know_of}
use Rattle.anb_syntax.proofs.writing.put_knows.Given as goal

abbrev pub invariant-loop-item : goal.invariant-loop-item
invariant-loop-item l = l.out.items ++ all_bytes (flat_map lay_know (map know_of (drop l.item-index l.knows.items))) ≡ l.initial.out.items ++ all_bytes (flat_map lay_know (map know_of l.knows.items))
