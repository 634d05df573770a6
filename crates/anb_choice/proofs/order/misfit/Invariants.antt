use Rattle.std.proofs.Common.{◌≡◌, drop}
use Rattle.anb_choice.specs.Parsing.{misfit}
use Rattle.anb_choice.proofs.order.misfit.Given as goal

abbrev pub invariant-loop-i : goal.invariant-loop-i
invariant-loop-i l = misfit (drop l.i l.kinds) (drop l.i l.marks) ≡ misfit l.kinds l.marks
