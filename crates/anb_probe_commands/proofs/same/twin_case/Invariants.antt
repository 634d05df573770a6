use Rattle.std.proofs.Common.{◌≡◌, ◌+◌, drop}
use Rattle.anb_probe_commands.specs.Reports.{twin_from}
use Rattle.anb_probe_commands.proofs.same.twin_case.Given as goal

abbrev pub invariant-loop-i : goal.invariant-loop-i
invariant-loop-i l = twin_from l.all l.apart l.name (l.i + 1) (drop l.i l.told) ≡ twin_from l.all l.apart l.name 1 l.told
