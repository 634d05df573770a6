use Rattle.std.specs.List.{All}
use Rattle.anb_suite.specs.Suites.{HasCheck}
use Rattle.anb_suite.proofs.Comparisons.{CheckedTo}
use Rattle.anb_suite.proofs.checking.checks.Given as goal

abbrev pub invariant-loop-i : goal.invariant-loop-i
invariant-loop-i l = record {
  are : CheckedTo l.code l.i l.came l.checks.items;
  each : All (HasCheck l.code) l.checks.items;
}
