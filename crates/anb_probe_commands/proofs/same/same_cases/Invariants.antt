use Rattle.std.proofs.Common.{◌≡◌, [], take, drop}
use Rattle.anb_probe_commands.specs.Reports.{same_from}
use Rattle.anb_probe_commands.proofs.same.same_cases.Given as goal

abbrev pub invariant-loop-i : goal.invariant-loop-i
invariant-loop-i l = same_from (take l.i l.values) (drop l.i l.values) ≡ same_from [] l.values
