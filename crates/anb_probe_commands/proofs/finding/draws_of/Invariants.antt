use Rattle.std.proofs.Common.{map, take}
use Rattle.anb_probe_commands.specs.Plays.{AreTold}
use Rattle.anb_probe_commands.specs.Playing.{end_in}
use Rattle.anb_probe_commands.specs.Tasks.{probing_by}
use Rattle.anb_probe_commands.proofs.finding.draws_of.Given as goal

abbrev pub invariant-loop-outcome : goal.invariant-loop-outcome
invariant-loop-outcome l = AreTold (probing_by l.task.protocol l.task.role l.task.values l.task.seed) (map end_in (take l.outcome-index l.outcomes)) l.told.items
