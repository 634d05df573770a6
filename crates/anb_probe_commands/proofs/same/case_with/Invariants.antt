use Rattle.std.proofs.Common.{◌≡◌, ◌+◌, Some, drop}
use Rattle.anb_probe_commands.specs.Reports.{case_with}
use Rattle.anb_probe_commands.proofs.same.case_with.Given as goal

abbrev pub invariant-loop-i : goal.invariant-loop-i
invariant-loop-i l = case_with (Some l.value) (l.i + 1) (drop l.i l.values) ≡ case_with (Some l.value) 1 l.values
