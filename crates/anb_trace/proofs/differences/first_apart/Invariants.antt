use Rattle.std.proofs.Common.{◌≡◌, drop, map}
use Rattle.anb_term.specs.View.{tree_of}
use Rattle.anb_trace.specs.Inside.{first_apart}
use Rattle.anb_trace.proofs.differences.first_apart.Given as goal

abbrev pub invariant-loop-i : goal.invariant-loop-i
invariant-loop-i l =
    first_apart (drop l.i (map tree_of l.terms)) (drop l.i l.dues) (drop l.i l.cames) ≡ first_apart (map tree_of l.terms) l.dues l.cames
