use Rattle.anb_trace_commands.proofs.Over.{come_from, ended_so, late_so, unreached_come, unreached_late, unreached_over}
use Rattle.anb_trace_commands.proofs.traced.trace_over.Goals as goal

pub returns-in-Ok-clause-comes : goal.returns-in-Ok-clause-comes
returns-in-Ok-clause-comes g c =
    let t = c.args.tracing in
    let now = c.trace_now.ensures in
    come_from (g.W.Wire.state c.args.wire.now) (g.W.Wire.state c.reach_stdio.new.wire) c.in-Ok.ensures.reached (g.W.Wire.state c.trace_now.new.wire) now.only
    t.protocol t.role t.prepared.code t.prepared.initial t.prepared.seed c.args.session t.transcript c.trace_now.result now.comes

pub returns-in-Ok-clause-late : goal.returns-in-Ok-clause-late
returns-in-Ok-clause-late g c =
    late_so (g.W.Wire.state c.args.wire.now) (g.W.Wire.state c.reach_stdio.new.wire) c.in-Ok.ensures.reached (g.W.Wire.state c.trace_now.new.wire) c.trace_now.ensures.only c.trace_now.result c.trace_now.ensures.ends

pub returns-in-Ok-clause-wire : goal.returns-in-Ok-clause-wire
returns-in-Ok-clause-wire g c =
    ended_so (g.W.Wire.state c.args.wire.now) (g.W.Wire.state c.reach_stdio.new.wire) c.in-Ok.ensures.reached (g.W.Wire.state c.trace_now.new.wire) c.trace_now.ensures.only c.trace_now.result c.trace_now.ensures.ends

pub returns-in-Err-clause-comes : goal.returns-in-Err-clause-comes
returns-in-Err-clause-comes g c =
    let t = c.args.tracing in
    unreached_come (g.W.Wire.state c.args.wire.now) (g.W.Wire.state c.reach_stdio.new.wire) c.in-Err.status c.in-Err.ensures.failed t.protocol t.role t.prepared.code t.prepared.initial t.prepared.seed c.args.session t.transcript

pub returns-in-Err-clause-late : goal.returns-in-Err-clause-late
returns-in-Err-clause-late g c = unreached_late (g.W.Wire.state c.args.wire.now) (g.W.Wire.state c.reach_stdio.new.wire) c.in-Err.status c.in-Err.ensures.failed

pub returns-in-Err-clause-wire : goal.returns-in-Err-clause-wire
returns-in-Err-clause-wire g c = unreached_over (g.W.Wire.state c.args.wire.now) (g.W.Wire.state c.reach_stdio.new.wire) c.in-Err.status c.in-Err.ensures.failed
