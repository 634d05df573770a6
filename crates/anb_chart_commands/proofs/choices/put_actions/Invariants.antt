use Rattle.std.proofs.Common.{◌≡◌, ◌++◌, List, length, drop, map}
use Rattle.anb_protocol.specs.Choices.{each_after}
use Rattle.anb_protocol.specs.Plans.{names_made_at}
use Rattle.anb_protocol.specs.Protocols.{ActionValue}
use Rattle.anb_protocol.specs.Views.{action_value}
use Rattle.anb_chart_commands.specs.ChoiceCharts.{lines_between, part_text}
use Rattle.anb_chart_commands.proofs.choices.put_actions.Given as goal

abbrev pub invariant-loop-i : goal.invariant-loop-i
invariant-loop-i l = record {
  before : List ActionValue;
  many : length before ≡ l.i;
  made : drop l.i l.made ≡ each_after (names_made_at l.protocol) before (map action_value (drop l.i l.actions));
  so_far : l.out.items ++ each_after (part_text l.protocol l.from l.to) before (map action_value (drop l.i l.actions))
      ≡ l.fn.out.items ++ lines_between l.protocol l.from l.to;
}
