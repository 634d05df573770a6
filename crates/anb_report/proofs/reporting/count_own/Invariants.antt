use Rattle.std.proofs.Common.{◌≡◌, ◌+◌, ◌≤◌, drop, map}
use Rattle.std.specs.Prelude.{count_by}
use Rattle.anb_protocol.specs.Views.{action_value}
use Rattle.anb_report.specs.Reporting.{is_own}
use Rattle.anb_report.proofs.reporting.count_own.Given as goal

abbrev pub invariant-loop-action : goal.invariant-loop-action
invariant-loop-action l = record {
  due : l.count + count_by (is_own l.role) (map action_value (drop l.action-index l.actions)) ≡ count_by (is_own l.role) (map action_value l.actions);
  few : l.count ≤ l.action-index;
}
