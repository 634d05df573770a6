use Rattle.std.proofs.Common.{◌≡◌, ◌≤◌, take, length, false}
use Rattle.anb_attempts.specs.declared.attempts.TheConstants.{MOST}
use Rattle.anb_attempts.specs.Attempts.{HasAdded, IsPartOfPoint}
use Rattle.anb_attempts.proofs.trying.put_points.Given as goal

abbrev pub invariant-loop-point : goal.invariant-loop-point
invariant-loop-point l = record {
  added : HasAdded (IsPartOfPoint l.p l.role l.code l.all) (take l.point-index l.points) l.initial.suite l.suite;
  more : l.suite.more ≡ false;
  most : length l.suite.attempts.items ≤ MOST;
}
