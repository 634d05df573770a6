use Rattle.std.proofs.Common.{sym, ◌∙◌}
use Rattle.anb_base.specs.Wires.{WireState}
use Rattle.anb_chart.specs.Charts.{chart}
use Rattle.anb_command.proofs.OverWire.{by_parts}
use Rattle.anb_command.proofs.States.{only_writes}
use Rattle.anb_text.specs.Writing.{IsWritten}
use Rattle.anb_chart_commands.proofs.write_lines.Goals as goal

pub returns-clause-writes : goal.returns-clause-writes
returns-clause-writes g c =
    by_parts (λ (S T : WireState). IsWritten (chart c.args.protocol.now) c.write_chart.result S.written T.written S.write_faults T.write_faults) _ _ _ _
    (g.met.W.Wire.state_tells c.args.wire.now) (g.met.W.Wire.state_tells c.write_chart.new.snk) c.write_chart.ensures.written

pub returns-clause-only : goal.returns-clause-only
returns-clause-only g c =
    only_writes _ _ _ _ _ _ _ _ _ _ _ _ _ _ _ _ (g.met.W.Wire.state_tells c.args.wire.now) (g.met.W.Wire.state_tells c.write_chart.new.snk)
    (sym (g.met.W.Wire.beside_sink c.write_chart.new.snk) ∙ c.write_chart.ensures.kept ∙ g.met.W.Wire.beside_sink c.args.wire.now) c.write_chart.ensures.written.never_falls
