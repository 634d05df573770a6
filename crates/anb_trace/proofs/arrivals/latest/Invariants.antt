use Rattle.std.proofs.Common.{◌≡◌, drop, max}
use Rattle.anb_trace.specs.Arrivals.{latest}
use Rattle.anb_trace.proofs.arrivals.latest.Given as goal

abbrev pub invariant-loop-register : goal.invariant-loop-register
invariant-loop-register l = max l.last (latest l.arrivals (drop l.register-index l.registers)) ≡ latest l.arrivals l.registers
