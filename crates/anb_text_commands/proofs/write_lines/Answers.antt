use Rattle.std.proofs.Common.{sym, ◌∙◌}
use Rattle.anb_command.proofs.States.{only_writes, told_written_by}
use Rattle.anb_text_commands.proofs.write_lines.Goals as goal

pub returns-in-None-clause-writes : goal.returns-in-None-clause-writes
returns-in-None-clause-writes g c =
    rw c.in-None.is
    (told_written_by _ _ _ _ _ _ _ _ _ _ _ _ _ _ _ _ (g.met.W.Wire.state_tells c.args.wire.now) (g.met.W.Wire.state_tells c.write_role_file.new.snk) _ c.write_role_file.result c.write_role_file.ensures.written)

pub returns-in-None-clause-only : goal.returns-in-None-clause-only
returns-in-None-clause-only g c =
    only_writes _ _ _ _ _ _ _ _ _ _ _ _ _ _ _ _ (g.met.W.Wire.state_tells c.args.wire.now) (g.met.W.Wire.state_tells c.write_role_file.new.snk)
    (sym (g.met.W.Wire.beside_sink c.write_role_file.new.snk) ∙ c.write_role_file.ensures.kept ∙ g.met.W.Wire.beside_sink c.args.wire.now) c.write_role_file.ensures.written.never_falls

pub returns-in-Some-clause-writes : goal.returns-in-Some-clause-writes
returns-in-Some-clause-writes g c =
    rw c.in-Some.is
    (told_written_by _ _ _ _ _ _ _ _ _ _ _ _ _ _ _ _ (g.met.W.Wire.state_tells c.args.wire.now) (g.met.W.Wire.state_tells c.write_explanation.new.snk) _ c.write_explanation.result c.write_explanation.ensures.written)

pub returns-in-Some-clause-only : goal.returns-in-Some-clause-only
returns-in-Some-clause-only g c =
    only_writes _ _ _ _ _ _ _ _ _ _ _ _ _ _ _ _ (g.met.W.Wire.state_tells c.args.wire.now) (g.met.W.Wire.state_tells c.write_explanation.new.snk)
    (sym (g.met.W.Wire.beside_sink c.write_explanation.new.snk) ∙ c.write_explanation.ensures.kept ∙ g.met.W.Wire.beside_sink c.args.wire.now) c.write_explanation.ensures.written.never_falls
