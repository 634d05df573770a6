use Rattle.std.proofs.Common.{take}
use Rattle.anb_trace.specs.Trying.{IsMarked, use_of}
use Rattle.anb_trace.proofs.openers.marks.Given as goal

abbrev pub invariant-loop-instr : goal.invariant-loop-instr
invariant-loop-instr l = IsMarked (use_of l.trial) (take l.instr-index l.instrs) l.count l.marks.items
