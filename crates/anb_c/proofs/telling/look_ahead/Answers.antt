use Rattle.std.proofs.Common.{inl, inr}
use Rattle.anb_c.proofs.Turning.{again, sends_next}
use Rattle.anb_c.proofs.telling.look_ahead.Goals as goal

pub returns-in-Message-clause-stands : goal.returns-in-Message-clause-stands
returns-in-Message-clause-stands c = λ code p sent at.
    let b = c.in-Message.message in
    let now = c.next.new.session in
    let goes = c.in-Message.ensures.goes code p sent at in
    (inl (b, sends_next code p sent b now.live now.pending goes.0 goes.1), again code p sent b now.live now.pending goes.0 goes.1)

pub returns-in-Done-clause-stands : goal.returns-in-Done-clause-stands
returns-in-Done-clause-stands c = λ code p sent at.
    let goes = c.in-Done.ensures.goes code p sent at in
    (inr (inl goes.1), goes.0)

pub returns-in-Stopped-clause-stands : goal.returns-in-Stopped-clause-stands
returns-in-Stopped-clause-stands c = λ code p sent at.
    let goes = c.in-Stopped.ensures.goes code p sent at in
    let halt = c.in-Stopped.field-0 in
    (inr (inr (halt.event, halt.at, goes.1)), goes.0)
