use Rattle.std.proofs.Common.{◌≡◌, ◌++◌, drop}
use Rattle.anb_probe_commands.specs.Reports.{equal_lines}
use Rattle.anb_probe_commands.proofs.same.lines_on.Given as goal

abbrev pub invariant-loop-i : goal.invariant-loop-i
invariant-loop-i l = l.lines.items ++ equal_lines l.p l.told (drop l.i l.names) ≡ equal_lines l.p l.told l.names
