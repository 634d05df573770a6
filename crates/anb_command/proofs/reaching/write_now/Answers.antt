use Rattle.std.proofs.Common.{sym, ◌∙◌}
use Rattle.anb_command.proofs.States.{only_writes, puts, puts_prefix, write_quiet, write_rose}
use Rattle.anb_command.proofs.reaching.write_now.Goals as goal

pub returns-clause-put : goal.returns-clause-put
returns-clause-put g c =
    puts _ _ _ _ _ _ _ _ _ _ _ _ _ _ _ _ (g.met.W.Wire.state_tells c.args.wire.now) (g.met.W.Wire.state_tells c.write_whole.new.snk) c.write_whole.result c.args.text.now c.write_whole.ensures.put

pub returns-clause-failed : goal.returns-clause-failed
returns-clause-failed g c =
    puts_prefix _ _ _ _ _ _ _ _ _ _ _ _ _ _ _ _ (g.met.W.Wire.state_tells c.args.wire.now) (g.met.W.Wire.state_tells c.write_whole.new.snk) c.write_whole.result c.args.text.now c.write_whole.ensures.failed

pub returns-clause-cause : goal.returns-clause-cause
returns-clause-cause g c =
    write_rose _ _ _ _ _ _ _ _ _ _ _ _ _ _ _ _ (g.met.W.Wire.state_tells c.args.wire.now) (g.met.W.Wire.state_tells c.write_whole.new.snk) c.write_whole.result c.write_whole.ensures.cause

pub returns-clause-quiet : goal.returns-clause-quiet
returns-clause-quiet g c =
    write_quiet _ _ _ _ _ _ _ _ _ _ _ _ _ _ _ _ (g.met.W.Wire.state_tells c.args.wire.now) (g.met.W.Wire.state_tells c.write_whole.new.snk) c.write_whole.result c.write_whole.ensures.quiet

pub returns-clause-only : goal.returns-clause-only
returns-clause-only g c =
    only_writes _ _ _ _ _ _ _ _ _ _ _ _ _ _ _ _ (g.met.W.Wire.state_tells c.args.wire.now) (g.met.W.Wire.state_tells c.write_whole.new.snk)
    (sym (g.met.W.Wire.beside_sink c.write_whole.new.snk) ∙ c.write_whole.ensures.kept ∙ g.met.W.Wire.beside_sink c.args.wire.now) c.write_whole.ensures.never_falls
