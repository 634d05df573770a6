use Rattle.std.proofs.Common.{inl, inr}
use Rattle.anb_role_commands.specs.Playing.{play_in}
use Rattle.anb_role_commands.proofs.Replaying.{reached_only, replayed_wire, tried_only, tried_wire}
use Rattle.anb_role_commands.proofs.role_replay.compare_over.Goals as goal

pub returns-in-Ok-clause-compared : goal.returns-in-Ok-clause-compared
returns-in-Ok-clause-compared g c = inr c.compare.ensures

pub returns-in-Ok-clause-only_reaches : goal.returns-in-Ok-clause-only_reaches
returns-in-Ok-clause-only_reaches g c = reached_only (g.W.Wire.state c.args.wire.now) (g.W.Wire.state c.reach_stdio.new.wire) c.in-Ok.ensures.reached

pub returns-in-Ok-clause-wire : goal.returns-in-Ok-clause-wire
returns-in-Ok-clause-wire g c =
    let p = c.args.comparison.now.prepared in
    replayed_wire (g.W.Wire.state c.args.wire.now) (g.W.Wire.state c.reach_stdio.new.wire) c.in-Ok.ensures.reached (play_in p.code p.initial p.seed c.args.session) c.args.comparison.now.transcript c.compare.result c.compare.ensures

pub returns-in-Err-clause-compared : goal.returns-in-Err-clause-compared
returns-in-Err-clause-compared g c = inl c.in-Err.ensures.failed.0

pub returns-in-Err-clause-only_reaches : goal.returns-in-Err-clause-only_reaches
returns-in-Err-clause-only_reaches g c = tried_only (g.W.Wire.state c.args.wire.now) (g.W.Wire.state c.reach_stdio.new.wire) c.in-Err.ensures.failed.1

pub returns-in-Err-clause-wire : goal.returns-in-Err-clause-wire
returns-in-Err-clause-wire g c =
    tried_wire (g.W.Wire.state c.args.wire.now) (g.W.Wire.state c.reach_stdio.new.wire) c.in-Err.status c.in-Err.ensures.failed.0 c.in-Err.ensures.failed.1
