use Rattle.std.proofs.Common.{◌≡◌, drop}
use Rattle.anb_verdict.specs.Verdicts.{last_said}
use Rattle.anb_verdict.proofs.judging.reached_by.Given as goal

abbrev pub invariant-loop-i : goal.invariant-loop-i
invariant-loop-i l = last_said l.i l.last (drop l.i l.lines) ≡ last_said 0 0 l.lines
