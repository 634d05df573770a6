use Rattle.std.proofs.Common.{◌≡◌, ◌++◌, map, drop}
use Rattle.anb_probe_commands.specs.Plays.{verdicts_of}
use Rattle.anb_probe_commands.specs.Playing.{end_in}
use Rattle.anb_probe_commands.proofs.finding.verdicts_of.Given as goal

abbrev pub invariant-loop-outcome : goal.invariant-loop-outcome
invariant-loop-outcome l = l.verdicts.items ++ verdicts_of (map end_in (drop l.outcome-index l.outcomes)) ≡ verdicts_of (map end_in l.outcomes)
