use Rattle.std.proofs.Common.{◌≡◌, ◌++◌, drop, map}
use Rattle.anb_term.specs.View.{tree_of}
use Rattle.anb_lack.specs.Lacking.{origin_lines}
use Rattle.anb_lack.proofs.lines.put_had_lines.Given as goal

abbrev pub invariant-loop-i : goal.invariant-loop-i
invariant-loop-i l =
    l.out.items ++ origin_lines l.protocol (map tree_of (drop l.i l.terms)) (drop l.i l.origins) ≡ l.initial.out.items ++ origin_lines l.protocol (map tree_of l.terms) l.origins
