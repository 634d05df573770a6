use Rattle.std.proofs.Common.{◌≡◌, ◌++◌, map, take}
use Rattle.anb_choice.specs.Order.{blank}
use Rattle.anb_choice.proofs.placed.put_blanks.Given as goal

abbrev pub invariant-loop-b : goal.invariant-loop-b
invariant-loop-b l = l.out.items ≡ l.fn.out.items ++ map blank (take l.b-index l.bytes)
