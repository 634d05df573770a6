use Rattle.std.proofs.Common.{◌≡◌, take}
use Rattle.anb_honest.proofs.order.same_pieces.Given as goal

abbrev pub invariant-loop-i : goal.invariant-loop-i
invariant-loop-i l = take l.i l.ones ≡ take l.i l.others
