use Rattle.std.proofs.Common.{take}
use Rattle.anb_code.specs.Uses.{AreLastUses}
use Rattle.anb_code.proofs.uses.last_uses.Given as goal

abbrev pub invariant-loop-i : goal.invariant-loop-i
invariant-loop-i l = AreLastUses l.formats (take l.i l.instrs) l.uses.items
