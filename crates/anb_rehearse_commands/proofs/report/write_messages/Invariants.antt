use Rattle.std.proofs.Common.{◌≡◌, drop}
use Rattle.std.specs.List.{flat_map}
use Rattle.anb_text.proofs.Written.{Due}
use Rattle.anb_rehearse_commands.specs.Reports.{sent_line}
use Rattle.anb_rehearse_commands.proofs.report.write_messages.Given as goal

abbrev pub invariant-loop-sent : goal.invariant-loop-sent
invariant-loop-sent g l = record {
  due : Due (flat_map sent_line l.messages) (g.K.Sink.written l.fn.snk) (g.K.Sink.written l.snk) (g.K.Sink.faults l.fn.snk) (g.K.Sink.faults l.snk) (flat_map sent_line (drop l.sent-index l.messages));
  kept : g.K.Sink.kept l.snk ≡ g.K.Sink.kept l.fn.snk;
}
