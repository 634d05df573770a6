use Rattle.std.proofs.Common.{◌≡◌, length}
use Rattle.anb_unify.specs.Classes.{AreClasses, IsShortened}
use Rattle.anb_unify.specs.Reading.{AreRoots}
use Rattle.anb_unify.proofs.solving.roots_of.Given as goal

abbrev pub invariant-loop-i : goal.invariant-loop-i
invariant-loop-i l = record {
  classes : AreClasses l.names l.pool l.parents.items;
  stay : IsShortened l.names l.pool l.initial.parents.items l.parents.items;
  roots : AreRoots l.pool l.parents.items l.roots.items;
  long : length l.roots.items ≡ l.i;
}
