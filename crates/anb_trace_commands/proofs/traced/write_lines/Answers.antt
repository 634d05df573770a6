use Rattle.std.proofs.Common.{◌++◌, sym, ◌∙◌}
use Rattle.anb_base.specs.Wires.{WireState}
use Rattle.anb_command.proofs.OverWire.{by_parts}
use Rattle.anb_command.proofs.States.{only_writes}
use Rattle.anb_text.specs.Writing.{IsWritten}
use Rattle.anb_trace.specs.Traces.{trace}
use Rattle.anb_trace.specs.Words.{subject_of}
use Rattle.anb_trace_commands.specs.TraceCommand.{differing_line}
use Rattle.anb_trace_commands.proofs.traced.write_lines.Goals as goal

pub returns-clause-writes : goal.returns-clause-writes
returns-clause-writes g c =
    let p = c.args.prepared.now in
    by_parts (λ (S T : WireState). IsWritten (trace (subject_of c.args.protocol.now p.code c.args.explanation.now) p.initial p.seed c.args.session c.args.arrivals.now ++ differing_line c.args.status.now) c.write_both.result S.written T.written S.write_faults T.write_faults) _ _ _ _
    (g.met.W.Wire.state_tells c.args.wire.now) (g.met.W.Wire.state_tells c.write_both.new.snk) c.write_both.ensures.written

pub returns-clause-only : goal.returns-clause-only
returns-clause-only g c =
    only_writes _ _ _ _ _ _ _ _ _ _ _ _ _ _ _ _ (g.met.W.Wire.state_tells c.args.wire.now) (g.met.W.Wire.state_tells c.write_both.new.snk)
    (sym (g.met.W.Wire.beside_sink c.write_both.new.snk) ∙ c.write_both.ensures.kept ∙ g.met.W.Wire.beside_sink c.args.wire.now) c.write_both.ensures.written.never_falls
