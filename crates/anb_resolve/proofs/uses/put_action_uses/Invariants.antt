use Rattle.std.proofs.Common.{◌≡◌, ◌++◌, map, drop}
use Rattle.std.specs.List.{flat_map}
use Rattle.anb_syntax.specs.Views.{action_of}
use Rattle.anb_protocol.specs.Names.{action_uses}
use Rattle.anb_resolve.specs.Uses.{use_of}
use Rattle.anb_resolve.proofs.uses.put_action_uses.Given as goal

abbrev pub invariant-loop-item : goal.invariant-loop-item
invariant-loop-item l = map use_of l.out.items ++ flat_map action_uses (map action_of (drop l.item-index l.actions.items)) ≡ map use_of l.initial.out.items ++ flat_map action_uses (map action_of l.actions.items)
