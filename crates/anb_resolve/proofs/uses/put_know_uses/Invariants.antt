use Rattle.std.proofs.Common.{◌≡◌, ◌++◌, map, drop}
use Rattle.std.specs.List.{flat_map}
use Rattle.anb_syntax.specs.Views.{know_of}
use Rattle.anb_protocol.specs.Names.{know_uses}
use Rattle.anb_resolve.specs.Uses.{use_of}
use Rattle.anb_resolve.proofs.uses.put_know_uses.Given as goal

abbrev pub invariant-loop-item : goal.invariant-loop-item
invariant-loop-item l = map use_of l.out.items ++ flat_map know_uses (map know_of (drop l.item-index l.knows.items)) ≡ map use_of l.initial.out.items ++ flat_map know_uses (map know_of l.knows.items)
