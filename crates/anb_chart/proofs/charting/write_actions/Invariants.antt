use Rattle.std.proofs.Common.{◌≡◌, List, [], length, drop, map}
use Rattle.anb_protocol.specs.Choices.{each_after}
use Rattle.anb_protocol.specs.Plans.{names_made_at}
use Rattle.anb_protocol.specs.Protocols.{ActionValue}
use Rattle.anb_protocol.specs.Views.{action_value}
use Rattle.anb_text.proofs.Written.{Due}
use Rattle.anb_chart.specs.Charts.{action_text}
use Rattle.anb_chart.proofs.charting.write_actions.Given as goal

abbrev pub invariant-loop-i : goal.invariant-loop-i
invariant-loop-i g l = record {
  before : List ActionValue;
  many : length before ≡ l.i;
  made : drop l.i l.made ≡ each_after (names_made_at l.protocol) before (map action_value (drop l.i l.actions));
  due : Due (each_after (action_text l.protocol) [] l.protocol.actions) (g.K.Sink.written l.fn.snk) (g.K.Sink.written l.snk) (g.K.Sink.faults l.fn.snk) (g.K.Sink.faults l.snk) (each_after (action_text l.protocol) before (map action_value (drop l.i l.actions)));
  kept : g.K.Sink.kept l.snk ≡ g.K.Sink.kept l.fn.snk;
}
