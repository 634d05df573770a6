use Rattle.std.proofs.Common.{◌≡◌, [], drop}
use Rattle.anb_probe_commands.specs.Cases.{joined_once}
use Rattle.anb_probe_commands.specs.Reports.{all_lacking}
use Rattle.anb_probe_commands.proofs.report.lacking.Given as goal

abbrev pub invariant-loop-i : goal.invariant-loop-i
invariant-loop-i l = joined_once l.lines.items (all_lacking l.p l.role (drop l.i l.cases) (drop l.i l.verdicts)) ≡ joined_once [] (all_lacking l.p l.role l.cases l.verdicts)
