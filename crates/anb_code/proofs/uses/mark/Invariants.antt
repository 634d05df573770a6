use Rattle.std.proofs.Common.{take}
use Rattle.anb_code.specs.Uses.{AreMarked}
use Rattle.anb_code.proofs.uses.mark.Given as goal

abbrev pub invariant-loop-r : goal.invariant-loop-r
invariant-loop-r l = AreMarked l.at (take l.r-index l.registers) l.initial.uses.items l.uses.items
