use Rattle.std.proofs.Common.{◌≤◌, length, All}
use Rattle.anb_base.specs.declared.TheConstants.{ARRIVAL}
use Rattle.anb_honest_tests.proofs.telling.values.Given as goal

abbrev pub invariant-loop-word : goal.invariant-loop-word
invariant-loop-word l = All (λ value. length value ≤ ARRIVAL) l.values.items
