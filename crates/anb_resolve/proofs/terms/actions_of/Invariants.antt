use Rattle.std.proofs.Common.{◌≡◌, ◌++◌, map, drop}
use Rattle.anb_syntax.specs.Views.{action_of as action_item}
use Rattle.anb_protocol.specs.Protocols.{action_of}
use Rattle.anb_protocol.specs.Views.{action_value}
use Rattle.anb_resolve.proofs.terms.actions_of.Given as goal

abbrev pub invariant-loop-item : goal.invariant-loop-item
invariant-loop-item l = map action_value l.actions.items ++ map (action_of l.atoms l.formats l.roles) (map action_item (drop l.item-index l.items.items)) ≡ map (action_of l.atoms l.formats l.roles) (map action_item l.items.items)
