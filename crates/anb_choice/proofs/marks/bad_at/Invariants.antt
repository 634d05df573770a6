use Rattle.std.proofs.Common.{◌≡◌, drop}
use Rattle.anb_choice.specs.Order.{bad_at}
use Rattle.anb_choice.proofs.marks.bad_at.Given as goal

abbrev pub invariant-loop-mark : goal.invariant-loop-mark
invariant-loop-mark l = bad_at (drop l.mark-index l.marks) ≡ bad_at l.marks
