use Rattle.std.proofs.Common.{◌≡◌, ◌≤◌, drop}
use Rattle.anb_trace.specs.Arrivals.{arrivals_after, last_arrivals}
use Rattle.anb_trace.proofs.arrivals.last_arrivals.Given as goal

abbrev pub invariant-loop-instr : goal.invariant-loop-instr
invariant-loop-instr l =
    (arrivals_after l.code.formats l.arrivals.items l.received (drop l.instr-index l.code.instrs) ≡ last_arrivals l.code) × (l.received ≤ l.instr-index)
