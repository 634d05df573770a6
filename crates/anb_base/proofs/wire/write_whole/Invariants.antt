use Rattle.std.proofs.Common.{length, ◌-◌, ◌≡◌, ◌≤◌, take}
use Rattle.anb_base.specs.Moves.{Put}
use Rattle.anb_base.proofs.wire.write_whole.Given as goal

abbrev pub invariant-loop-done : goal.invariant-loop-done
invariant-loop-done g l = record {
  within : l.done ≤ length l.bytes;
  put : Put (g.K.Sink.written l.fn.snk) (g.K.Sink.written l.snk) (take l.done l.bytes);
  quiet : g.K.Sink.faults l.snk ≡ g.K.Sink.faults l.fn.snk;
  kept : g.K.Sink.kept l.snk ≡ g.K.Sink.kept l.fn.snk;
}

abbrev pub decreases-loop-done : goal.decreases-loop-done
decreases-loop-done g l = length l.bytes - l.done
