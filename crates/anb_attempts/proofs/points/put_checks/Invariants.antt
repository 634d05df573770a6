use Rattle.std.proofs.Common.{◌≡◌, ◌++◌, map, take}
use Rattle.anb_attempts.specs.declared.points.Point.TheVariants.{Check}
use Rattle.anb_attempts.proofs.points.put_checks.Given as goal

abbrev pub invariant-loop-check : goal.invariant-loop-check
invariant-loop-check l = l.points.items ≡ l.initial.points.items ++ map Check (take l.check-index l.checks)
