use Rattle.std.proofs.Common.{◌≡◌, ◌≤◌, take}
use Rattle.anb_base.specs.Moves.{Put}
use Rattle.anb_host.specs.HostFrames.{out}
use Rattle.anb_host.proofs.serving.write_notices.Given as goal

abbrev pub invariant-loop-notice : goal.invariant-loop-notice
invariant-loop-notice g l = record {
  put : Put (g.W.Sink.written l.fn.wire) (g.W.Sink.written l.wire) (out (take l.notice-index l.told));
  quiet : g.W.Sink.faults l.wire ≡ g.W.Sink.faults l.fn.wire;
  never_falls : g.W.Sink.faults l.fn.wire ≤ g.W.Sink.faults l.wire;
  kept : g.W.Sink.kept l.wire ≡ g.W.Sink.kept l.fn.wire;
}
