use Rattle.anb_probe_commands.specs.Keeping.{told_from}
use Rattle.anb_probe_commands.specs.Tasks.{probing_by}
use Rattle.anb_probe_commands.specs.Asking.{trying_by}
use Rattle.anb_probe_commands.specs.Words.{order_of}
use Rattle.anb_probe_commands.proofs.Tried.{PlayedSoFar}
use Rattle.anb_probe_commands.proofs.playing.play_cases.Given as goal

abbrev pub invariant-loop-i : goal.invariant-loop-i
invariant-loop-i g l =
    (so : PlayedSoFar (probing_by l.task.protocol l.task.role l.task.values l.task.seed) l.prepared (order_of (trying_by l.trying)) (g.T.Trials.trial l.fn.trials) (g.T.Trials.trial l.trials)
    (g.W.Wire.state l.fn.wire) (g.W.Wire.state l.wire) l.outcomes.items l.i l.reached)
    × g.K.Keeper.After l.fn.keeper (told_from 0 so.ends) l.keeper
