use Rattle.std.proofs.Common.{◌≡◌, ◌+◌, drop}
use Rattle.anb_code.specs.Verified.{count_registers}
use Rattle.anb_report.proofs.seen.count_registers.Given as goal

abbrev pub invariant-loop-instr : goal.invariant-loop-instr
invariant-loop-instr l = l.count + count_registers l.formats (drop l.instr-index l.instrs) ≡ count_registers l.formats l.instrs
