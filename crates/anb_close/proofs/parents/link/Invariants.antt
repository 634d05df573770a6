use Rattle.std.proofs.Common.{◌≤◌, length}
use Rattle.anb_close.specs.Parents.{ListsStay, AreLinked}
use Rattle.anb_close.proofs.parents.link.Given as goal

abbrev pub invariant-loop-n : goal.invariant-loop-n
invariant-loop-n l = record {
  stay : ListsStay l.fn.parents.items l.parents.items;
  longer : length l.fn.parents.items ≤ length l.parents.items;
  long : length l.pool ≤ length l.parents.items;
  linked : AreLinked l.pool l.fn.parents.items l.from → AreLinked l.pool l.parents.items l.n;
}
