use Rattle.std.proofs.Common.{◌≡◌, ◌++◌, map, drop}
use Rattle.std.specs.List.{flat_map}
use Rattle.anb_syntax.specs.Views.{action_of}
use Rattle.anb_protocol.specs.Names.{action_roles}
use Rattle.anb_protocol.specs.Views.{pointed}
use Rattle.anb_mistakes.proofs.parts.put_ends.Given as goal

abbrev pub invariant-loop-item : goal.invariant-loop-item
invariant-loop-item l = pointed l.out.items ++ flat_map action_roles (map action_of (drop l.item-index l.actions.items)) ≡ pointed l.initial.out.items ++ flat_map action_roles (map action_of l.actions.items)
