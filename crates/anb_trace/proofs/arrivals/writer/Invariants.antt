use Rattle.std.proofs.Common.{◌≡◌, drop}
use Rattle.anb_trace.specs.Arrivals.{writer}
use Rattle.anb_trace.proofs.arrivals.writer.Given as goal

abbrev pub invariant-loop-instr : goal.invariant-loop-instr
invariant-loop-instr l = writer l.code.formats l.code.instrs l.register ≡ writer l.code.formats (drop l.instr-index l.code.instrs) l.left
