use Rattle.std.proofs.Common.{◌≡◌, ◌-◌, drop, false, replicate}
use Rattle.anb_protocol.specs.Seen.{marked}
use Rattle.anb_report.specs.Looking.{repeated}
use Rattle.anb_report.proofs.marks.marks_of_repeated.Given as goal

abbrev pub invariant-loop-k : goal.invariant-loop-k
invariant-loop-k l = record {
  once : l.once.items ≡ marked (replicate l.count false) (drop (l.many - l.k) l.numbers);
  twice : l.twice.items ≡ marked (replicate l.count false) (repeated (drop (l.many - l.k) l.numbers));
}
