use Rattle.std.proofs.Common.{◌≡◌, drop, map}
use Rattle.anb_term.specs.View.{tree_of}
use Rattle.anb_trace.specs.Differences.{held}
use Rattle.anb_trace.proofs.differences.held.Given as goal

abbrev pub invariant-loop-i : goal.invariant-loop-i
invariant-loop-i l =
    held (drop l.i (map tree_of l.terms)) (drop l.i l.registers) (tree_of l.term) ≡ held (map tree_of l.terms) l.registers (tree_of l.term)
