use Rattle.std.proofs.Common.{◌≡◌, ◌++◌, map, drop}
use Rattle.std.specs.List.{flat_map}
use Rattle.anb_syntax.specs.Grammar.{TypeItem}
use Rattle.anb_syntax.specs.Views.{type_of}
use Rattle.anb_protocol.specs.Views.{pointed}
use Rattle.anb_resolve.proofs.uses.put_type_names.Given as goal

abbrev pub invariant-loop-item : goal.invariant-loop-item
invariant-loop-item l = pointed l.out.items ++ flat_map (λ (i : TypeItem). i.names) (map type_of (drop l.item-index l.types.items)) ≡ pointed l.initial.out.items ++ flat_map (λ (i : TypeItem). i.names) (map type_of l.types.items)
