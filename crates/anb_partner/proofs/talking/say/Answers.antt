use Rattle.std.proofs.Common.{refl}
use Rattle.anb_base.proofs.Moving.{kept_first, kept_third}
use Rattle.anb_partner.proofs.Passing.{passed_in}
use Rattle.anb_partner.proofs.talking.say.Goals as goal

pub returns-in-Ok-clause-passed : goal.returns-in-Ok-clause-passed
returns-in-Ok-clause-passed g c =
    let left = kept_first _ _ _ _ _ _ _ _ c.put.ensures.kept (g.met.W.Wire.beside_sink c.args.child.now) (g.met.W.Wire.beside_sink c.put.new.snk) in
    let taken_at = kept_third _ _ _ _ _ _ _ _ _ _ c.put.ensures.kept (g.met.W.Wire.beside_sink c.args.child.now) (g.met.W.Wire.beside_sink c.put.new.snk) in
    rw (g.met.W.Wire.state_tells c.args.child.now, g.met.W.Wire.state_tells c.put.new.snk)
    (passed_in _ _ c.args.message.now left taken_at c.in-Ok.ensures.put)

pub returns-in-Err-clause-over : goal.returns-in-Err-clause-over
returns-in-Err-clause-over g c = λ corrupt.
    let left = kept_first _ _ _ _ _ _ _ _ c.put.ensures.kept (g.met.W.Wire.beside_sink c.args.child.now) (g.met.W.Wire.beside_sink c.put.new.snk) in
    let taken_at = kept_third _ _ _ _ _ _ _ _ _ _ c.put.ensures.kept (g.met.W.Wire.beside_sink c.args.child.now) (g.met.W.Wire.beside_sink c.put.new.snk) in
    rw (g.met.W.Wire.state_tells c.args.child.now, g.met.W.Wire.state_tells c.put.new.snk)
    ((c.args.message.now, refl, c.in-Err.ensures.failed), record { left = left; taken_at = taken_at }, c.in-Err.ensures.cause)
