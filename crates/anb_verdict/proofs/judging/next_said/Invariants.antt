use Rattle.std.proofs.Common.{◌≡◌, ◌+◌, drop}
use Rattle.std.specs.List.{position_from}
use Rattle.anb_verdict.specs.Verdicts.{next_said}
use Rattle.anb_verdict.proofs.judging.next_said.Given as goal

abbrev pub invariant-loop-i : goal.invariant-loop-i
invariant-loop-i l = position_from (λ said. said) (l.i + 1) (drop l.i l.sides) ≡ next_said l.sides l.event
