use Rattle.std.proofs.Common.{sym, ◌∙◌}
use Rattle.anb_frame.specs.Frames.{frame}
use Rattle.anb_command.proofs.States.{only_writes, puts, puts_prefix, write_quiet, write_rose}
use Rattle.anb_park_commands.proofs.going.put_record.Goals as goal

pub returns-clause-put : goal.returns-clause-put
returns-clause-put g c =
    puts _ _ _ _ _ _ _ _ _ _ _ _ _ _ _ _ (g.met.W.Wire.state_tells c.args.wire.now) (g.met.W.Wire.state_tells c.put.new.snk) c.put.result (frame c.args.parked.now) c.put.ensures.put

pub returns-clause-failed : goal.returns-clause-failed
returns-clause-failed g c =
    puts_prefix _ _ _ _ _ _ _ _ _ _ _ _ _ _ _ _ (g.met.W.Wire.state_tells c.args.wire.now) (g.met.W.Wire.state_tells c.put.new.snk) c.put.result (frame c.args.parked.now) c.put.ensures.failed

pub returns-clause-cause : goal.returns-clause-cause
returns-clause-cause g c =
    write_rose _ _ _ _ _ _ _ _ _ _ _ _ _ _ _ _ (g.met.W.Wire.state_tells c.args.wire.now) (g.met.W.Wire.state_tells c.put.new.snk) c.put.result c.put.ensures.cause

pub returns-clause-quiet : goal.returns-clause-quiet
returns-clause-quiet g c =
    write_quiet _ _ _ _ _ _ _ _ _ _ _ _ _ _ _ _ (g.met.W.Wire.state_tells c.args.wire.now) (g.met.W.Wire.state_tells c.put.new.snk) c.put.result c.put.ensures.quiet

pub returns-clause-only : goal.returns-clause-only
returns-clause-only g c =
    only_writes _ _ _ _ _ _ _ _ _ _ _ _ _ _ _ _ (g.met.W.Wire.state_tells c.args.wire.now) (g.met.W.Wire.state_tells c.put.new.snk)
    (sym (g.met.W.Wire.beside_sink c.put.new.snk) ∙ c.put.ensures.kept ∙ g.met.W.Wire.beside_sink c.args.wire.now) c.put.ensures.never_falls
