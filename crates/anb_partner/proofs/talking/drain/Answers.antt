use Rattle.std.proofs.Common.{Ok, Err, ap, arith, ◌∙◌}
use Rattle.anb_base.proofs.Moving.{kept_first}
use Rattle.anb_partner.proofs.Draining.{drained_end, drained_long, ended, long, message, one_more}
use Rattle.anb_partner.proofs.talking.drain.Goals as goal

pub returns-in-Ok-End : goal.returns-in-Ok-End
returns-in-Ok-End g c = λ end.
    let old = c.loop-behind.invariant in
    let same = kept_first _ _ _ _ _ _ _ _ c.take.ensures.kept (g.met.W.Wire.beside_source c.loop-behind.child) (g.met.W.Wire.beside_source c.take.new.src) in
    let at = ended _ _ _ _ _ _ c.take.new.buf c.take.result c.take.ensures.takes (c.in-Ok-End.is ∙ ap Ok c.in-Ok-End.field-0-is) in
    rw (g.met.W.Wire.state_tells c.args.child.now, g.met.W.Wire.state_tells c.take.new.src)
    (drained_end _ _ end c.loop-behind.behind (g.W.Source.left c.loop-behind.child) old.messages.0 old.messages.1 old.messages.2 (same ∙ old.written) at.0 at.1)

pub returns-in-Err-TooLarge : goal.returns-in-Err-TooLarge
returns-in-Err-TooLarge g c = λ end.
    let old = c.loop-behind.invariant in
    let same = kept_first _ _ _ _ _ _ _ _ c.take.ensures.kept (g.met.W.Wire.beside_source c.loop-behind.child) (g.met.W.Wire.beside_source c.take.new.src) in
    let at = long _ _ _ _ _ _ c.take.new.buf c.take.result c.take.ensures.takes c.in-Err-TooLarge._len (c.in-Err-TooLarge.is ∙ ap Err c.in-Err-TooLarge.field-0-is) in
    rw (g.met.W.Wire.state_tells c.args.child.now, g.met.W.Wire.state_tells c.take.new.src)
    (drained_long _ _ end c.loop-behind.behind (g.W.Source.left c.loop-behind.child) old.messages.0 old.messages.1 old.messages.2 (same ∙ old.written) _ at.1 (omega (arith, at.0, old.room)))

pub loop-behind-preserved : goal.loop-behind-preserved
loop-behind-preserved g c =
    let old = c.loop-behind.invariant in
    let same = kept_first _ _ _ _ _ _ _ _ c.take.ensures.kept (g.met.W.Wire.beside_source c.loop-behind.child) (g.met.W.Wire.beside_source c.take.new.src) in
    let read = message _ _ _ _ _ _ c.take.new.buf c.take.result c.take.ensures.takes _ (c.in-Ok-Frame.is ∙ ap Ok c.in-Ok-Frame.field-0-is) in
    record {
      room = omega (arith, c.take.auto.buf, old.room);
      messages = one_more (g.W.Source.left c.args.child.now) (g.W.Source.left c.loop-behind.child) (g.W.Source.left c.take.new.src) old.messages.0 _ c.loop-behind.behind old.messages.1 old.messages.2 read;
      written = same ∙ old.written;
      faults = c.in-Ok-Frame.ensures.quiet ∙ old.faults;
    }
