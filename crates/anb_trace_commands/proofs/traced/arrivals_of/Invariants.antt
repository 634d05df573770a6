use Rattle.std.proofs.Common.{◌≡◌, ◌++◌}
use Rattle.anb_transcript.specs.Replays.{arrivals_of}
use Rattle.anb_trace_commands.proofs.traced.arrivals_of.Given as goal

abbrev pub invariant-loop-line : goal.invariant-loop-line
invariant-loop-line l = l.arrivals.items ++ arrivals_of l.line-iterator.rest.items ≡ arrivals_of l.fn.transcript
