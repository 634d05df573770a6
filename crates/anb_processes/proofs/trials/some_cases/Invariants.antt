use Rattle.std.proofs.Common.{◌≡◌, replicate}
use Rattle.anb_processes.specs.Trials.{fresh_case}
use Rattle.anb_processes.proofs.trials.some_cases.Given as goal

abbrev pub invariant-loop : goal.invariant-loop
invariant-loop l = l.cases.items ≡ replicate l.counter fresh_case
