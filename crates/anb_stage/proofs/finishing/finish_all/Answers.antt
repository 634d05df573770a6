use Rattle.std.proofs.Common.{arith, rules}
use Rattle.anb_stage.proofs.Finishes.{none_finished, one_finished, one_unfinished, one_bad}
use Rattle.anb_stage.proofs.finishing.finish_all.Goals as goal

pub loop-role-init : goal.loop-role-init
loop-role-init g c = none_finished (g.P.Spawner.child c.args.spawner.now) c.args.roles c.requires.running

pub finish-requires-clause-running : goal.finish-requires-clause-running
finish-requires-clause-running g c = c.loop-role.invariant.running c.loop-role.role (omega arith) c.loop-role-test.true

pub returns-in-Ok-clause-failed : goal.returns-in-Ok-clause-failed
returns-in-Ok-clause-failed g c =
    one_bad (g.P.Spawner.child c.args.spawner.now) (g.P.Spawner.child c.loop-role.spawner) (g.P.Spawner.child c.finish.new.self) c.loop-role.role c.args.roles c.loop-role.invariant c.loop-role-test.true c.requires.few
    c.finish.ensures.kept c.finish.ensures.never_falls c.finish.ensures.others c.in-Ok.ensures.quiet c.in-Ok.status (search rules) c.in-Ok.ensures.status c.in-Ok.ensures.finished

pub returns-in-Err-clause-failed : goal.returns-in-Err-clause-failed
returns-in-Err-clause-failed g c =
    one_unfinished (g.P.Spawner.child c.args.spawner.now) (g.P.Spawner.child c.loop-role.spawner) (g.P.Spawner.child c.finish.new.self) c.loop-role.role c.args.roles c.loop-role.invariant c.loop-role-test.true c.requires.few
    c.finish.ensures.kept c.finish.ensures.never_falls c.finish.ensures.others c.in-Err.ensures.cause

pub loop-role-preserved : goal.loop-role-preserved
loop-role-preserved g c =
    one_finished (g.P.Spawner.child c.args.spawner.now) (g.P.Spawner.child c.loop-role.spawner) (g.P.Spawner.child c.finish.new.self) c.loop-role.role c.args.roles c.loop-role.invariant c.loop-role-test.true c.requires.few
    c.finish.ensures.kept c.finish.ensures.never_falls c.finish.ensures.others c.in-Ok-eq0.ensures.quiet (search rules) c.in-Ok-eq0.ensures.finished
