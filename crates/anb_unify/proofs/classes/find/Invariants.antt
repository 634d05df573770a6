-- So far parents were replaced by their parents alone, and the place is in the class of the first one.
use Rattle.std.proofs.Common.{◌<◌, length}
use Rattle.anb_term.specs.Tree.{Tree}
use Rattle.anb_unify.specs.Classes.{rank, AreClasses, SameAt, Respects, IsShortened}
use Rattle.anb_unify.proofs.classes.find.Given as goal

abbrev pub invariant-loop-at : goal.invariant-loop-at
invariant-loop-at l = record {
  classes : AreClasses l.names l.pool l.parents.items;
  within : l.at.0 < length l.pool;
  shortened : IsShortened l.names l.pool l.initial.parents.items l.parents.items;
  same : (f : Tree → Tree) → Respects l.pool f l.parents.items → SameAt l.pool f l.fn.id.0 l.at.0;
}

abbrev pub decreases-loop-at : goal.decreases-loop-at
decreases-loop-at l = rank l.names l.pool l.at.0
