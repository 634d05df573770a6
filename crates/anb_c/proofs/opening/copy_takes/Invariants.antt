use Rattle.std.proofs.Common.{◌≡◌, take}
use Rattle.anb_code.specs.Taking.{take_texts}
use Rattle.anb_c.proofs.opening.copy_takes.Given as goal

abbrev pub invariant-loop-i : goal.invariant-loop-i
invariant-loop-i l = l.names.items ≡ take l.i (take_texts l.code.instrs)
