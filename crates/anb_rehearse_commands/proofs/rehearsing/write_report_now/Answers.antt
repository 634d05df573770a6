use Rattle.std.proofs.Common.{sym, ◌∙◌}
use Rattle.anb_command.proofs.States.{only_writes, told_written_by}
use Rattle.anb_rehearse_commands.proofs.rehearsing.write_report_now.Goals as goal

pub returns-clause-writes : goal.returns-clause-writes
returns-clause-writes g c =
    told_written_by _ _ _ _ _ _ _ _ _ _ _ _ _ _ _ _ (g.met.W.Wire.state_tells c.args.wire.now) (g.met.W.Wire.state_tells c.write_report.new.snk) _ c.write_report.result c.write_report.ensures.written

pub returns-clause-only : goal.returns-clause-only
returns-clause-only g c =
    only_writes _ _ _ _ _ _ _ _ _ _ _ _ _ _ _ _ (g.met.W.Wire.state_tells c.args.wire.now) (g.met.W.Wire.state_tells c.write_report.new.snk)
    (sym (g.met.W.Wire.beside_sink c.write_report.new.snk) ∙ c.write_report.ensures.kept ∙ g.met.W.Wire.beside_sink c.args.wire.now) c.write_report.ensures.written.never_falls
