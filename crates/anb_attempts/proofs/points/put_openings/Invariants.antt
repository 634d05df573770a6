use Rattle.std.proofs.Common.{◌≡◌, ◌++◌, map, take}
use Rattle.anb_attempts.specs.declared.points.Point.TheVariants.{Opening}
use Rattle.anb_attempts.proofs.points.put_openings.Given as goal

abbrev pub invariant-loop-opening : goal.invariant-loop-opening
invariant-loop-opening l = l.points.items ≡ l.initial.points.items ++ map Opening (take l.opening-index l.openings)
