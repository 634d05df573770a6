use Rattle.anb_unify.specs.Solving.{AreAt, first_variables}
use Rattle.anb_unify.proofs.solving.put_variables.Given as goal

abbrev pub invariant-loop-i : goal.invariant-loop-i
invariant-loop-i l = AreAt l.pool l.ids.items (first_variables l.names l.i)
