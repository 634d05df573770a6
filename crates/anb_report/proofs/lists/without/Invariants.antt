use Rattle.std.proofs.Common.{◌≡◌, ◌++◌, drop}
use Rattle.std.specs.Prelude.{filter}
use Rattle.anb_report.specs.Looking.{is_other}
use Rattle.anb_report.proofs.lists.without.Given as goal

abbrev pub invariant-loop-r : goal.invariant-loop-r
invariant-loop-r l = l.out.items ++ filter (is_other l.some) (drop l.r-index l.all) ≡ filter (is_other l.some) l.all
