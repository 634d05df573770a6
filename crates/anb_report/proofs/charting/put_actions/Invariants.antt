use Rattle.std.proofs.Common.{◌≡◌, ◌≤◌, List, [], ◌++◌, length, drop, map}
use Rattle.std.specs.Prelude.{count_by}
use Rattle.anb_protocol.specs.Choices.{each_after}
use Rattle.anb_protocol.specs.Protocols.{ActionValue}
use Rattle.anb_protocol.specs.Views.{action_value}
use Rattle.anb_report.specs.Reporting.{is_own}
use Rattle.anb_report.specs.RoleCharts.{noted_text}
use Rattle.anb_report.proofs.charting.put_actions.Given as goal

abbrev pub invariant-loop-i : goal.invariant-loop-i
invariant-loop-i l = record {
  before : List ActionValue;
  many : length before ≡ l.i;
  own : l.event ≡ count_by (is_own l.role) before;
  few : l.event ≤ l.i;
  due : l.out.items ++ each_after (noted_text l.protocol l.role l.notes) before (map action_value (drop l.i l.actions)) ≡ l.initial.out.items ++ each_after (noted_text l.protocol l.role l.notes) [] l.protocol.actions;
}
