use Rattle.std.proofs.Common.{◌≡◌, ◌++◌, map, drop}
use Rattle.anb_resolve.proofs.uses.put_item_atoms.Given as goal

abbrev pub invariant-loop-name : goal.invariant-loop-name
invariant-loop-name l = l.out.items ++ map (λ x. record { name = x; sort = l.item.sort }) (drop l.name-index l.item.names.items) ≡ l.initial.out.items ++ map (λ x. record { name = x; sort = l.item.sort }) l.item.names.items
