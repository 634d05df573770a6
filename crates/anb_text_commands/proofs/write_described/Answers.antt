use Rattle.std.proofs.Common.{false}
use Rattle.anb_base.specs.declared.place.Place.TheVariants.{Stdio}
use Rattle.anb_command.proofs.OverWire.{not_reached, text_done, text_put, written_unreached}
use Rattle.anb_text_commands.proofs.write_described.Goals as goal

pub returns-in-Ok-write_lines-clause-writes : goal.returns-in-Ok-write_lines-clause-writes
returns-in-Ok-write_lines-clause-writes g c = text_put Stdio _ _ c.in-Ok.ensures.reached _ c.write_lines.ensures.only _ c.in-Ok-write_lines.ensures.writes.whole

pub returns-in-Ok-write_lines-clause-wire : goal.returns-in-Ok-write_lines-clause-wire
returns-in-Ok-write_lines-clause-wire g c = text_done Stdio _ _ c.in-Ok.ensures.reached _ c.write_lines.ensures.only (c.in-Ok-write_lines.ensures.writes.quiet (λ failed. absurd (cc)))

pub returns-in-Err-clause-writes : goal.returns-in-Err-clause-writes
returns-in-Err-clause-writes g c = written_unreached Stdio _ _ c.in-Err.ensures.failed

pub returns-in-Err-clause-wire : goal.returns-in-Err-clause-wire
returns-in-Err-clause-wire g c = not_reached Stdio _ _ c.in-Err.ensures.failed false
