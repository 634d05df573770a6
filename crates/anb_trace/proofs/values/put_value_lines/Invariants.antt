use Rattle.std.proofs.Common.{◌≡◌, ◌++◌, drop, map}
use Rattle.anb_term.specs.View.{tree_of}
use Rattle.anb_trace.specs.Words.{value_lines}
use Rattle.anb_trace.proofs.values.put_value_lines.Given as goal

abbrev pub invariant-loop-i : goal.invariant-loop-i
invariant-loop-i l =
    l.out.items ++ value_lines l.protocol (drop l.i (map tree_of l.terms)) (drop l.i l.values) ≡ l.fn.out.items ++ value_lines l.protocol (map tree_of l.terms) l.values
