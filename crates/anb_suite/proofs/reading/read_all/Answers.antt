-- All registers.
use Rattle.std.proofs.Common.{map, ap, ◌∙◌, arith}
use Rattle.anb_unify.proofs.Steps.{taken_all}
use Rattle.anb_suite.specs.Reading.{read_for}
use Rattle.anb_suite.proofs.reading.read_all.Goals as goal

pub returns : goal.returns
returns c = c.loop-register.invariant ∙ ap (map (read_for c.args.gone c.args.used)) (taken_all c.args.registers.now c.loop-register.register-index (omega arith))
