use Rattle.std.proofs.Common.{take}
use Rattle.anb_honest.proofs.Placing.{IsPlaced}
use Rattle.anb_honest.proofs.given.Given.new.Given as goal

abbrev pub invariant-loop-a : goal.invariant-loop-a
invariant-loop-a l = IsPlaced (take l.a-index l.a-items) l.places.items l.next
