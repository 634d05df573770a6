-- Patterns are instances of themselves, so each is taken, and so an instance of the other.
use Rattle.std.proofs.Common.{refl, sym}
use Rattle.anb_unify.proofs.Putting.{each_itself}
use Rattle.anb_accept.specs.Laws.{PatternsAreOne}
use Rattle.anb_term.specs.Tree.{leaf}
use Rattle.anb_accept.proofs.laws.patterns_are_one.Goals as goal

are_one : PatternsAreOne
are_one has names plan one other a b = a.instances other (b.taken other (record { put = leaf; keeps = λ n h. refl; is = sym (each_itself other) }))

pub returns : goal.returns
returns c = are_one
