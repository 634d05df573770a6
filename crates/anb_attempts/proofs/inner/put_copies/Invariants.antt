use Rattle.std.proofs.Common.{◌≡◌, ◌++◌, map, take}
use Rattle.anb_term.specs.View.{tree_of}
use Rattle.anb_attempts.proofs.inner.put_copies.Given as goal

abbrev pub invariant-loop-t : goal.invariant-loop-t
invariant-loop-t l = map tree_of l.operands.items ≡ map tree_of l.initial.operands.items ++ map tree_of (take l.t-index l.terms)
