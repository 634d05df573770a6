use Rattle.std.proofs.Common.{◌≡◌, ◌++◌}
use Rattle.anb_format.specs.Fields.{leb128}
use Rattle.anb_format.proofs.fields.put_leb128.Given as goal

abbrev pub invariant-loop-left : goal.invariant-loop-left
invariant-loop-left l = l.out.items ++ leb128 l.left ≡ l.fn.out.items ++ leb128 l.n

abbrev pub decreases-loop-left : goal.decreases-loop-left
decreases-loop-left l = l.left
