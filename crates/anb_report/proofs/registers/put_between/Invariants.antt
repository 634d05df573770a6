use Rattle.std.proofs.Common.{◌≡◌, ◌-◌, ◌++◌}
use Rattle.std.specs.List.{range_with_len}
use Rattle.anb_report.proofs.registers.put_between.Given as goal

abbrev pub invariant-loop-r : goal.invariant-loop-r
invariant-loop-r l = l.out.items ++ range_with_len l.r (l.end - l.r) ≡ l.initial.out.items ++ range_with_len l.start (l.end - l.start)
