use Rattle.std.proofs.Common.{◌≤◌, length}
use Rattle.anb_close.specs.Parents.{ListsStay}
use Rattle.anb_close.proofs.parents.pad.Given as goal

abbrev pub invariant-loop-k : goal.invariant-loop-k
invariant-loop-k l = record {
  stay : ListsStay l.initial.parents.items l.parents.items;
  longer : length l.initial.parents.items ≤ length l.parents.items;
  long : l.k ≤ length l.parents.items;
}
