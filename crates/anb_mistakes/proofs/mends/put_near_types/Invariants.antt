use Rattle.std.proofs.Common.{◌≡◌, ◌++◌, drop, map}
use Rattle.std.specs.List.{flat_map}
use Rattle.anb_syntax.specs.Views.{type_of}
use Rattle.anb_syntax.specs.Grammar.{TypeItem}
use Rattle.anb_mistakes.specs.Near.{near_among}
use Rattle.anb_mistakes.proofs.mends.put_near_types.Given as goal

abbrev pub invariant-loop-item : goal.invariant-loop-item
invariant-loop-item l =
    l.out.items ++ flat_map (λ (i : TypeItem). near_among i.names l.name) (map type_of (drop l.item-index l.types))
    ≡ l.fn.out.items ++ flat_map (λ (i : TypeItem). near_among i.names l.name) (map type_of l.types)
