use Rattle.std.proofs.Common.{◌≡◌, ◌++◌, drop}
use Rattle.anb_text.specs.Lines.{operands}
use Rattle.anb_text.proofs.printing.put_call.Given as goal

abbrev pub invariant-loop-r : goal.invariant-loop-r
invariant-loop-r l = l.out.items ++ operands (drop l.r-index l.registers) ≡ l.initial.out.items ++ operands l.registers
