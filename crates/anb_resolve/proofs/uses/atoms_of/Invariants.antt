use Rattle.std.proofs.Common.{◌≡◌, ◌++◌, map, drop}
use Rattle.std.specs.List.{flat_map}
use Rattle.anb_syntax.specs.Views.{type_of}
use Rattle.anb_protocol.specs.Names.{item_atoms}
use Rattle.anb_resolve.proofs.uses.atoms_of.Given as goal

abbrev pub invariant-loop-item : goal.invariant-loop-item
invariant-loop-item l = l.all.items ++ flat_map item_atoms (map type_of (drop l.item-index l.types.items)) ≡ flat_map item_atoms (map type_of l.types.items)
