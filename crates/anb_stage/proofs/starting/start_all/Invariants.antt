use Rattle.anb_stage.specs.Words.{asked_lists}
use Rattle.anb_stage.specs.Steps.{Started}
use Rattle.anb_stage.proofs.starting.start_all.Given as goal

abbrev pub invariant-loop-i : goal.invariant-loop-i
invariant-loop-i g l = Started (g.P.Spawner.child l.fn.spawner) (g.P.Spawner.child l.spawner) l.i (asked_lists l.limit l.words)
