use Rattle.std.proofs.Common.{Ok, Err, ap, sym, ◌∙◌}
use Rattle.anb_base.proofs.Moving.{kept_first, stamped_told}
use Rattle.anb_partner.proofs.Passing.{heard_frame, heard_end, heard_part, heard_long, heard_fault}
use Rattle.anb_partner.proofs.talking.hear.Goals as goal

pub returns-in-Ok-clause-passed : goal.returns-in-Ok-clause-passed
returns-in-Ok-clause-passed g c =
    let same = kept_first _ _ _ _ _ _ _ _ c.take.ensures.kept (g.met.W.Wire.beside_source c.args.child.now) (g.met.W.Wire.beside_source c.take.new.src) in
    let whole = c.in-Ok-Frame.is ∙ ap Ok c.in-Ok-Frame.field-0-is in
    let message = c.new.ensures ∙ c.in-Ok.ensures.items in
    rw (message, g.met.W.Wire.state_tells c.args.child.now, g.met.W.Wire.state_tells c.take.new.src)
    (heard_frame _ _ _ _ c.take.new.buf c.requires same (λ k. stamped_told _ _ _ _ _ _ k (g.met.W.Wire.beside_source c.args.child.now)) c.in-Ok-Frame.n c.take.result whole c.take.ensures.takes)

pub returns-in-Ok-End-clause-over : goal.returns-in-Ok-End-clause-over
returns-in-Ok-End-clause-over g c = λ corrupt.
    let same = kept_first _ _ _ _ _ _ _ _ c.take.ensures.kept (g.met.W.Wire.beside_source c.args.child.now) (g.met.W.Wire.beside_source c.take.new.src) in
    rw (g.met.W.Wire.state_tells c.args.child.now, g.met.W.Wire.state_tells c.take.new.src)
    (heard_end _ _ _ _ c.take.new.buf c.requires same (λ k. stamped_told _ _ _ _ _ _ k (g.met.W.Wire.beside_source c.args.child.now)) corrupt c.take.result (c.in-Ok-End.is ∙ ap Ok c.in-Ok-End.field-0-is) c.take.ensures.takes)

pub returns-in-Err-Truncated-clause-over : goal.returns-in-Err-Truncated-clause-over
returns-in-Err-Truncated-clause-over g c = λ corrupt.
    let same = kept_first _ _ _ _ _ _ _ _ c.take.ensures.kept (g.met.W.Wire.beside_source c.args.child.now) (g.met.W.Wire.beside_source c.take.new.src) in
    rw (c.in-Err-Truncated.field-0-is, g.met.W.Wire.state_tells c.args.child.now, g.met.W.Wire.state_tells c.take.new.src)
    (heard_part _ _ _ _ c.take.new.buf c.requires same (λ k. stamped_told _ _ _ _ _ _ k (g.met.W.Wire.beside_source c.args.child.now)) corrupt c.in-Err-Truncated.have c.in-Err-Truncated.need c.take.result (c.in-Err-Truncated.is ∙ ap Err c.in-Err-Truncated.field-0-is) c.take.ensures.takes)

pub returns-in-Err-TooLarge-clause-over : goal.returns-in-Err-TooLarge-clause-over
returns-in-Err-TooLarge-clause-over g c = λ corrupt.
    let same = kept_first _ _ _ _ _ _ _ _ c.take.ensures.kept (g.met.W.Wire.beside_source c.args.child.now) (g.met.W.Wire.beside_source c.take.new.src) in
    rw (c.in-Err-TooLarge.field-0-is, g.met.W.Wire.state_tells c.args.child.now, g.met.W.Wire.state_tells c.take.new.src)
    (heard_long _ _ _ _ c.take.new.buf c.requires same (λ k. stamped_told _ _ _ _ _ _ k (g.met.W.Wire.beside_source c.args.child.now)) corrupt c.in-Err-TooLarge.len c.take.result (c.in-Err-TooLarge.is ∙ ap Err c.in-Err-TooLarge.field-0-is) c.take.ensures.takes)

pub returns-in-Err-Failed-clause-over : goal.returns-in-Err-Failed-clause-over
returns-in-Err-Failed-clause-over g c = λ corrupt.
    let same = kept_first _ _ _ _ _ _ _ _ c.take.ensures.kept (g.met.W.Wire.beside_source c.args.child.now) (g.met.W.Wire.beside_source c.take.new.src) in
    rw (g.met.W.Wire.state_tells c.args.child.now, g.met.W.Wire.state_tells c.take.new.src)
    (heard_fault _ _ _ _ c.take.new.buf c.requires same (λ k. stamped_told _ _ _ _ _ _ k (g.met.W.Wire.beside_source c.args.child.now)) corrupt c.take.result (c.in-Err-Failed.is ∙ ap Err c.in-Err-Failed.field-0-is) c.take.ensures.takes (rw c.in-Err-Failed.field-0-is at c.in-Err-Failed.ensures.cause))
