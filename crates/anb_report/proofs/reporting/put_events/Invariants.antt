use Rattle.std.proofs.Common.{◌≡◌, ◌≤◌, List, ◌++◌, length, drop, map}
use Rattle.std.specs.Prelude.{count_by}
use Rattle.anb_protocol.specs.Choices.{each_after}
use Rattle.anb_protocol.specs.Plans.{names_made_at}
use Rattle.anb_protocol.specs.Protocols.{ActionValue}
use Rattle.anb_protocol.specs.Views.{action_value}
use Rattle.anb_report.specs.Reporting.{action_text, events_text, is_own}
use Rattle.anb_report.proofs.reporting.put_events.Given as goal

abbrev pub invariant-loop-i : goal.invariant-loop-i
invariant-loop-i l = record {
  before : List ActionValue;
  many : length before ≡ l.i;
  own : l.event ≡ count_by (is_own l.role) before;
  few : l.event ≤ l.i;
  made : drop l.i l.made ≡ each_after (names_made_at l.protocol) before (map action_value (drop l.i l.actions));
  due : l.out.items ++ each_after (action_text l.protocol l.role l.notes) before (map action_value (drop l.i l.actions)) ≡ l.initial.out.items ++ events_text l.protocol l.role l.notes;
}
