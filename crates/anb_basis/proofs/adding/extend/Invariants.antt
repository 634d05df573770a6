use Rattle.std.proofs.Common.{◌≡◌, ◌≤◌, ◌++◌, ◌-◌, length, false}
use Rattle.std.proofs.Math.ListN.{replicate}
use Rattle.anb_basis.proofs.adding.extend.Given as goal

abbrev pub invariant-loop-k : goal.invariant-loop-k
invariant-loop-k l = record {
  longer : length l.initial.marks.items ≤ length l.marks.items;
  is : l.marks.items ≡ l.initial.marks.items ++ replicate (l.k - length l.initial.marks.items) false;
}
