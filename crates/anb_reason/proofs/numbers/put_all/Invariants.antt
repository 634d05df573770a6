use Rattle.anb_intern.proofs.Putting.{IsPutting}
use Rattle.anb_reason.proofs.numbers.put_all.Given as goal

abbrev pub invariant-loop-t : goal.invariant-loop-t
invariant-loop-t l = IsPutting l.initial.pool l.pool l.ids.items l.terms l.t-index
