use Rattle.anb_stage.specs.Steps.{Finished}
use Rattle.anb_stage.proofs.finishing.finish_all.Given as goal

abbrev pub invariant-loop-role : goal.invariant-loop-role
invariant-loop-role g l = Finished (g.P.Spawner.child l.fn.spawner) (g.P.Spawner.child l.spawner) l.role l.roles
