use Rattle.std.proofs.Common.{◌≡◌, ◌++◌, drop}
use Rattle.std.specs.Prelude.{filter}
use Rattle.anb_report.specs.News.{is_told}
use Rattle.anb_report.proofs.lists.told_among.Given as goal

abbrev pub invariant-loop-r : goal.invariant-loop-r
invariant-loop-r l = l.out.items ++ filter (is_told l.told) (drop l.r-index l.registers) ≡ filter (is_told l.told) l.registers
