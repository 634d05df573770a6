use Rattle.std.proofs.Common.{false}
use Rattle.anb_base.specs.declared.place.Place.TheVariants.{Stdio}
use Rattle.anb_command.proofs.OverWire.{not_reached, text_done, text_failed, text_prefix, text_put, written_unreached}
use Rattle.anb_command.proofs.text.write_text.Goals as goal

pub returns-in-Ok-write_now-clause-writes : goal.returns-in-Ok-write_now-clause-writes
returns-in-Ok-write_now-clause-writes g c = text_put Stdio _ _ c.in-Ok.ensures.reached _ c.write_now.ensures.only c.args.text.now c.in-Ok-write_now.ensures.put

pub returns-in-Ok-write_now-clause-wire : goal.returns-in-Ok-write_now-clause-wire
returns-in-Ok-write_now-clause-wire g c = text_done Stdio _ _ c.in-Ok.ensures.reached _ c.write_now.ensures.only c.in-Ok-write_now.ensures.quiet

pub returns-in-Err-write_now-clause-writes : goal.returns-in-Err-write_now-clause-writes
returns-in-Err-write_now-clause-writes g c = text_prefix Stdio _ _ c.in-Ok.ensures.reached _ c.write_now.ensures.only c.args.text.now c.in-Err-write_now.ensures.failed

pub returns-in-Err-write_now-clause-wire : goal.returns-in-Err-write_now-clause-wire
returns-in-Err-write_now-clause-wire g c = text_failed Stdio _ _ c.in-Ok.ensures.reached _ c.write_now.ensures.only c.in-Err-write_now.ensures.cause

pub returns-in-Err-clause-writes : goal.returns-in-Err-clause-writes
returns-in-Err-clause-writes g c = written_unreached Stdio _ _ c.in-Err.ensures.failed

pub returns-in-Err-clause-wire : goal.returns-in-Err-clause-wire
returns-in-Err-clause-wire g c = not_reached Stdio _ _ c.in-Err.ensures.failed false
