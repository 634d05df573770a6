use Rattle.std.proofs.Common.{◌≡◌, ◌≤◌, ℕ, List, [], ◌∷◌, length, refl, sym, ap, ◌∙◌, subst, arith}
use Rattle.anb_base.specs.declared.TheConstants.{ARRIVAL}
use Rattle.anb_plays.specs.Plays.{says}
use Rattle.anb_machine.specs.Machines.{gives}
use Rattle.anb_transcript.specs.declared.transcript.TranscriptLine.TheVariants.{In, Out}
use Rattle.anb_partner.specs.Talks.{Passed}
use Rattle.anb_partner.specs.Steps.{Stops}
use Rattle.anb_partner.proofs.Reaching.{says_line, says_first, hears_line, waits_for, is_done, is_stopped}
use Rattle.anb_partner.proofs.Going.{goes_by_line, still}
use Rattle.anb_partner.proofs.talking.turn.Goals as goal

pub returns-in-Ok-put_line-clause-goes_on : goal.returns-in-Ok-put_line-clause-goes_on
returns-in-Ok-put_line-clause-goes_on g c =
    let s = g.W.Wire.state c.args.child.now in
    let t = g.W.Wire.state c.say.new.child in
    goes_by_line (gives c.args.machine.now) (gives c.advance.new.self) c.args.lines.now.items c.put_line.new.lines.items s t (In c.in-Message.message) c.in-Ok-put_line.ensures.put
    (says_line (gives c.args.machine.now) (gives c.advance.new.self) c.in-Message.message c.in-Message.ensures.turned.0)
    (subst (λ (b : List ℕ). Passed s t (In b ∷ [])) c.as_slice.ensures c.in-Ok.ensures.passed)
    (subst (λ (b : List ℕ). length b ≤ ARRIVAL) c.as_slice.ensures c.in-Ok.ensures.short)

pub returns-in-Ok-take_in-clause-goes_on : goal.returns-in-Ok-take_in-clause-goes_on
returns-in-Ok-take_in-clause-goes_on g c =
    let s = g.W.Wire.state c.args.child.now in
    let t = g.W.Wire.state c.hear.new.child in
    let b = c.in-Ok-hear.message in
    goes_by_line (gives c.args.machine.now) (gives c.take_in.new.machine) c.args.lines.now.items c.take_in.new.lines.items s t (Out b) c.in-Ok-take_in.ensures.put
    (hears_line (gives c.args.machine.now) (gives c.advance.new.self) (gives c.take_in.new.machine) _ b c.in-Wants.ensures.turned.0 c.in-Wants.ensures.turned.1 c.in-Ok-take_in.ensures.gives)
    c.in-Ok-hear.ensures.passed c.in-Ok-hear.ensures.short

pub returns-in-Ok-take_in-clause-further : goal.returns-in-Ok-take_in-clause-further
returns-in-Ok-take_in-clause-further g c = omega (arith, c.in-Ok-take_in.ensures.further, c.in-Wants.ensures.turned.3)

pub returns-in-Done-clause-over : goal.returns-in-Done-clause-over
returns-in-Done-clause-over g c = λ corrupt. (is_done (gives c.args.machine.now) c.in-Done.ensures.turned.1, still (g.W.Wire.state c.args.child.now))

pub returns-in-Stopped-clause-over : goal.returns-in-Stopped-clause-over
returns-in-Stopped-clause-over g c = λ corrupt. ((c.in-Stopped.field-0, is_stopped (gives c.args.machine.now) c.in-Stopped.field-0 c.in-Stopped.ensures.turned.1), still (g.W.Wire.state c.args.child.now))

pub returns-in-Err-clause-over : goal.returns-in-Err-clause-over
returns-in-Err-clause-over g c = λ corrupt.
    let s = g.W.Wire.state c.args.child.now in
    let t = g.W.Wire.state c.say.new.child in
    let R' = gives c.advance.new.self in
    let so = λ (xs : List (List ℕ)). c.in-Message.ensures.turned.0 xs ∙ ap (λ m. says m (R' xs)) (sym c.as_slice.ensures) in
    subst (λ d. Stops corrupt d s t c.in-Err.stop) (sym (says_first (gives c.args.machine.now) R' c.as_slice.result.now so)) (c.in-Err.ensures.over corrupt)

pub returns-in-Err-hear-clause-over : goal.returns-in-Err-hear-clause-over
returns-in-Err-hear-clause-over g c = λ corrupt.
    let s = g.W.Wire.state c.args.child.now in
    let t = g.W.Wire.state c.hear.new.child in
    subst (λ d. Stops corrupt d s t c.in-Err-hear.stop) (sym (waits_for (gives c.args.machine.now) (gives c.advance.new.self) _ c.in-Wants.ensures.turned.0 c.in-Wants.ensures.turned.1)) (c.in-Err-hear.ensures.over corrupt)
