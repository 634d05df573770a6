use Rattle.std.proofs.Common.{◌≡◌, ◌≤◌, ◌++◌, map, drop}
use Rattle.anb_term.specs.View.{tree_of}
use Rattle.anb_protocol.specs.Views.{action_value}
use Rattle.anb_pattern.specs.Taken.{accepted}
use Rattle.anb_pattern.proofs.taken.put_accepted.Given as goal

abbrev pub invariant-loop-action : goal.invariant-loop-action
invariant-loop-action l = record {
  few : l.next ≤ l.action-index;
  due : l.out.items ++ accepted l.protocol l.role (drop l.next (map tree_of l.patterns)) (map action_value (drop l.action-index l.actions))
      ≡ l.initial.out.items ++ accepted l.protocol l.role (map tree_of l.patterns) (map action_value l.actions);
}
