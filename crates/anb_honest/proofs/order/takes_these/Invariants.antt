use Rattle.std.proofs.Common.{◌≡◌, take}
use Rattle.anb_code.specs.Taking.{take_texts}
use Rattle.anb_honest.proofs.order.takes_these.Given as goal

abbrev pub invariant-loop-i : goal.invariant-loop-i
invariant-loop-i l = take l.i (take_texts l.code.instrs) ≡ take l.i l.texts
