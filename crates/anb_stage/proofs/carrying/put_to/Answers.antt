use Rattle.std.proofs.Common.{None, rules}
use Rattle.anb_stage.specs.Sides.{without_input}
use Rattle.anb_stage.proofs.Beside.{kept_by_write, others_stay}
use Rattle.anb_stage.proofs.carrying.put_to.Goals as goal

pub returns-clause-kept : goal.returns-clause-kept
returns-clause-kept g c =
    let new = c.put-put.new.snk in
    kept_by_write g.P.Spawner.child _ new.spawner.ghost_name c.args.role new.role c.args.spawner.now new.spawner.now _ c.requires.within c.put-put.ensures.kept (search rules)

pub returns-clause-others : goal.returns-clause-others
returns-clause-others g c =
    let new = c.put-put.new.snk in
    others_stay g.P.Spawner.child without_input None None _ new.spawner.ghost_name c.args.role new.role c.args.spawner.now new.spawner.now _ c.put-put.ensures.kept (search rules)
