use Rattle.std.proofs.Common.{◌≡◌, ◌≤◌, ◌+◌, drop, map}
use Rattle.anb_probe_commands.specs.Cases.{case_count, lack_of}
use Rattle.anb_probe_commands.proofs.cases.case_count.Given as goal

abbrev pub invariant-loop-attempt : goal.invariant-loop-attempt
invariant-loop-attempt l = record {
  counted : l.count + case_count (map lack_of l.partners) (drop l.attempt-index l.attempts) ≡ case_count (map lack_of l.partners) l.attempts;
  most : l.count ≤ l.attempt-index;
}
