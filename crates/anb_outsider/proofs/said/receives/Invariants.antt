use Rattle.std.proofs.Common.{◌≡◌, map, drop}
use Rattle.std.specs.List.{list_any}
use Rattle.anb_pattern.specs.Taken.{is_received}
use Rattle.anb_protocol.specs.Views.{action_value}
use Rattle.anb_outsider.proofs.said.receives.Given as goal

abbrev pub invariant-loop-action : goal.invariant-loop-action
invariant-loop-action l = list_any (is_received l.role) (map action_value (drop l.action-index l.actions)) ≡ list_any (is_received l.role) (map action_value l.actions)
