use Rattle.std.proofs.Common.{◌≡◌, take}
use Rattle.anb_certify.proofs.frames.same_formats.Given as goal

abbrev pub invariant-loop-i : goal.invariant-loop-i
invariant-loop-i l = take l.i l.a ≡ take l.i l.b
