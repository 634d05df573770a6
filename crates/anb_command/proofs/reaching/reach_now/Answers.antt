use Rattle.anb_command.proofs.States.{did_not_reach, has_reached}
use Rattle.anb_command.proofs.reaching.reach_now.Goals as goal

pub returns-clause-reached : goal.returns-clause-reached
returns-clause-reached g c =
    let e = c.reach.ensures in
    has_reached _ _ _ _ _ _ _ _ _ _ _ _ _ _ _ _ (g.met.W.Wire.state_tells c.args.wire.now) (g.met.W.Wire.state_tells c.reach.new.self)
    e.left e.taken_at e.read_faults e.written e.write_faults e.never_falls c.reach.result c.args.place.now e.reached e.quiet

pub returns-clause-failed : goal.returns-clause-failed
returns-clause-failed g c =
    let e = c.reach.ensures in
    did_not_reach _ _ _ _ _ _ _ _ _ _ _ _ _ _ _ _ (g.met.W.Wire.state_tells c.args.wire.now) (g.met.W.Wire.state_tells c.reach.new.self)
    e.left e.taken_at e.read_faults e.written e.write_faults e.never_falls c.reach.result e.failed e.cause
