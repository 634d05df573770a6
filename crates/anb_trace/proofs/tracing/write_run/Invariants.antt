use Rattle.std.proofs.Common.{◌≡◌, take}
use Rattle.anb_code.specs.Verified.{count_registers}
use Rattle.anb_seal.specs.Streams.{draw_of}
use Rattle.anb_text.proofs.Written.{Due}
use Rattle.anb_trace.specs.Traces.{told_all}
use Rattle.anb_trace.specs.Tracing.{IsWithin, subject_in}
use Rattle.anb_trace.proofs.Running.{IsLeft, coming}
use Rattle.anb_trace.proofs.tracing.write_run.Given as goal

abbrev pub invariant-loop-at : goal.invariant-loop-at
invariant-loop-at g l = record {
  placed : l.first ≡ count_registers l.subject.code.now.formats (take l.at l.subject.code.now.instrs);
  within : IsWithin l.standing l.at;
  left : IsLeft (subject_in l.subject) l.seed l.session l.standing l.at;
  due : Due (told_all (subject_in l.subject) (draw_of l.seed l.session) l.subject.code.now.instrs l.fn.registers.items 0 0 0 0 l.fn.arrivals)
      (g.K.Sink.written l.fn.snk) (g.K.Sink.written l.snk) (g.K.Sink.faults l.fn.snk) (g.K.Sink.faults l.snk)
      (coming (subject_in l.subject) l.seed l.session l.standing l.first l.at);
  kept : g.K.Sink.kept l.snk ≡ g.K.Sink.kept l.fn.snk;
}
