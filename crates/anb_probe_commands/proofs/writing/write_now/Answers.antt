use Rattle.std.proofs.Common.{sym, ◌∙◌}
use Rattle.anb_command.proofs.States.{only_writes, told_written_by}
use Rattle.anb_probe_commands.proofs.Ending.{never_falls_by}
use Rattle.anb_probe_commands.proofs.writing.write_now.Goals as goal

pub returns-clause-writes : goal.returns-clause-writes
returns-clause-writes g c = λ text is.
    told_written_by _ _ _ _ _ _ _ _ _ _ _ _ _ _ _ _ (g.met.W.Wire.state_tells c.args.wire.now) (g.met.W.Wire.state_tells c.write_part.new.snk) _ c.write_part.result (c.write_part.ensures.written text is)

pub returns-clause-only : goal.returns-clause-only
returns-clause-only g c =
    only_writes _ _ _ _ _ _ _ _ _ _ _ _ _ _ _ _ (g.met.W.Wire.state_tells c.args.wire.now) (g.met.W.Wire.state_tells c.write_part.new.snk)
    (sym (g.met.W.Wire.beside_sink c.write_part.new.snk) ∙ c.write_part.ensures.kept ∙ g.met.W.Wire.beside_sink c.args.wire.now)
    (never_falls_by c.args.lines (λ bytes. bytes.items) c.write_part.result _ _ _ _ c.write_part.ensures.written)
