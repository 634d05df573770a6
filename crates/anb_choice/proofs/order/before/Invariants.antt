use Rattle.std.proofs.Common.{◌≡◌, ◌+◌, drop}
use Rattle.anb_choice.specs.Order.{before}
use Rattle.anb_choice.proofs.order.before.Given as goal

abbrev pub invariant-loop-i : goal.invariant-loop-i
invariant-loop-i l = l.i + before l.kinds (drop l.i l.marks) ≡ before l.kinds l.marks
