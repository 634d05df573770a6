use Rattle.std.proofs.Common.{◌≡◌, map, take, false}
use Rattle.std.specs.List.{list_any}
use Rattle.anb_protocol.specs.Views.{action_value}
use Rattle.anb_report.specs.Remarks.{is_from}
use Rattle.anb_report.proofs.remarks.sends.Given as goal

abbrev pub invariant-loop-action : goal.invariant-loop-action
invariant-loop-action l = list_any (is_from l.role) (map action_value (take l.action-index l.actions)) ≡ false
