use Rattle.std.proofs.Common.{◌≡◌, ◌≤◌, ◌+◌, ◌++◌, length, map}
use Rattle.anb_attempts.specs.declared.attempts.TheConstants.{MOST}
use Rattle.anb_probe_commands.specs.Cases.{cases_from, lack_of}
use Rattle.anb_probe_commands.proofs.cases.cases_of.Given as goal

abbrev pub invariant-loop-attempt : goal.invariant-loop-attempt
invariant-loop-attempt l = record {
  cases : l.cases.items ++ cases_from (map lack_of l.partners) l.fn.case l.number l.attempt-iterator.rest.items ≡ cases_from (map lack_of l.partners) l.fn.case 1 l.fn.attempts.items;
  few : length l.cases.items + length l.attempt-iterator.rest.items ≤ MOST;
  number : l.number + length l.attempt-iterator.rest.items ≤ MOST + 1;
}
