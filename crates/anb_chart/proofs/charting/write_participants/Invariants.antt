use Rattle.std.proofs.Common.{◌≡◌, drop}
use Rattle.std.specs.List.{flat_map}
use Rattle.anb_text.proofs.Written.{Due}
use Rattle.anb_chart.specs.Charts.{participant_line}
use Rattle.anb_chart.proofs.charting.write_participants.Given as goal

abbrev pub invariant-loop-role : goal.invariant-loop-role
invariant-loop-role g l = record {
  due : Due (flat_map participant_line l.roles) (g.K.Sink.written l.fn.snk) (g.K.Sink.written l.snk) (g.K.Sink.faults l.fn.snk) (g.K.Sink.faults l.snk) (flat_map participant_line (drop l.role-index l.roles));
  kept : g.K.Sink.kept l.snk ≡ g.K.Sink.kept l.fn.snk;
}
