use Rattle.std.proofs.Common.{◌≡◌, ◌++◌, map, drop}
use Rattle.std.specs.List.{flat_map}
use Rattle.anb_syntax.specs.Canon.{all_bytes, lay_action}
use Rattle.anb_syntax.specs.Views.{action_of}
use Rattle.anb_syntax.proofs.writing.put_actions.Given as goal

abbrev pub invariant-loop-action : goal.invariant-loop-action
invariant-loop-action l = l.out.items ++ all_bytes (flat_map lay_action (map action_of (drop l.action-index l.actions.items))) ≡ l.initial.out.items ++ all_bytes (flat_map lay_action (map action_of l.actions.items))
