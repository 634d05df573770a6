use Rattle.std.proofs.Common.{◌≡◌, ◌++◌, replicate}
use Rattle.anb_trace.proofs.arrivals.put_copies.Given as goal

abbrev pub invariant-loop-done : goal.invariant-loop-done
invariant-loop-done l = l.numbers.items ≡ l.initial.numbers.items ++ replicate l.done l.number
