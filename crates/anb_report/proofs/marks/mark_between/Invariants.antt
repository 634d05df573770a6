use Rattle.std.proofs.Common.{◌≡◌, ◌-◌}
use Rattle.std.specs.List.{range_with_len}
use Rattle.anb_protocol.specs.Seen.{marked}
use Rattle.anb_report.proofs.marks.mark_between.Given as goal

abbrev pub invariant-loop-n : goal.invariant-loop-n
invariant-loop-n l = marked l.marks.items (range_with_len l.n (l.end - l.n)) ≡ marked l.initial.marks.items (range_with_len l.start (l.end - l.start))
