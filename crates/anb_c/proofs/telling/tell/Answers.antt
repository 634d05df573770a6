use Rattle.std.proofs.Common.{ap, inl, inr, length, refl, sym, ◌∙◌}
use Rattle.anb_c.proofs.Turning.{again, sends_next}
use Rattle.anb_c.proofs.telling.tell.Goals as goal

pub returns-else-copy_out-clause-next : goal.returns-else-copy_out-clause-next
returns-else-copy_out-clause-next c = λ code p sent at.
    let b = c.in-Message.message in
    let now = c.next.new.session in
    let goes = c.in-Message.ensures.goes code p sent at in
    let short = c.copy_out.ensures.short c.if-copy_out.false in
    inr (inl (refl, short.0, short.1, again code p sent b now.live now.pending goes.0 goes.1, b, sym (c.copy_out.ensures.written ∙ ap length c.as_slice.ensures), sends_next code p sent b now.live now.pending goes.0 goes.1))
