use Rattle.std.proofs.Common.{sym, subst}
use Rattle.anb_probe_commands.specs.Playing.{BrokeIn}
use Rattle.anb_probe_commands.proofs.Ending.{broke_as, wrote_whole}
use Rattle.anb_probe_commands.proofs.writing.write_lines.Goals as goal

pub returns-in-Ok-clause-wrote : goal.returns-in-Ok-clause-wrote
returns-in-Ok-clause-wrote g c = λ text is. wrote_whole (g.W.Wire.state c.args.wire.now) (g.W.Wire.state c.write_now.new.wire) text c.in-Ok.ensures.only c.in-Ok.field-0 (c.in-Ok.ensures.writes text is)

pub returns-in-Err-clause-broke : goal.returns-in-Err-clause-broke
returns-in-Err-clause-broke g c = λ text is.
    let S = g.W.Wire.state c.args.wire.now in
    let T = g.W.Wire.state c.write_now.new.wire in
    subst (BrokeIn text S T) (sym c.no_of.ensures) (broke_as S T text c.in-Err.ensures.only c.in-Err.no (c.in-Err.ensures.writes text is))
