use Rattle.std.proofs.Common.{inl, inr}
use Rattle.anb_role_commands.proofs.Replaying.{reached_only, tried_only, tried_wire}
use Rattle.anb_judge_commands.specs.Tasks.{judged_by}
use Rattle.anb_judge_commands.proofs.Outcomes.{judged_wire}
use Rattle.anb_judge_commands.proofs.judging.judge_over.Goals as goal

pub returns-in-Ok-clause-judged : goal.returns-in-Ok-clause-judged
returns-in-Ok-clause-judged g c = inr c.judge_task.ensures

pub returns-in-Ok-clause-only_reaches : goal.returns-in-Ok-clause-only_reaches
returns-in-Ok-clause-only_reaches g c = reached_only (g.W.Wire.state c.args.wire.now) (g.W.Wire.state c.reach_stdio.new.wire) c.in-Ok.ensures.reached

pub returns-in-Ok-clause-wire : goal.returns-in-Ok-clause-wire
returns-in-Ok-clause-wire g c =
    let t = c.args.task.now in
    judged_wire (g.W.Wire.state c.args.wire.now) (g.W.Wire.state c.reach_stdio.new.wire) c.in-Ok.ensures.reached (judged_by t.protocol t.role t.initial.items t.transcript) c.judge_task.result c.judge_task.ensures

pub returns-in-Err-clause-judged : goal.returns-in-Err-clause-judged
returns-in-Err-clause-judged g c = inl c.in-Err.ensures.failed.0

pub returns-in-Err-clause-only_reaches : goal.returns-in-Err-clause-only_reaches
returns-in-Err-clause-only_reaches g c = tried_only (g.W.Wire.state c.args.wire.now) (g.W.Wire.state c.reach_stdio.new.wire) c.in-Err.ensures.failed.1

pub returns-in-Err-clause-wire : goal.returns-in-Err-clause-wire
returns-in-Err-clause-wire g c =
    tried_wire (g.W.Wire.state c.args.wire.now) (g.W.Wire.state c.reach_stdio.new.wire) c.in-Err.status c.in-Err.ensures.failed.0 c.in-Err.ensures.failed.1
