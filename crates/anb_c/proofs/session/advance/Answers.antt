use Rattle.std.proofs.Common.{◌∙◌, ℕ, List, Option, Some, sym, subst}
use Rattle.anb_machine.specs.Machines.{Turned}
use Rattle.anb_machine.specs.declared.turn.Turn.{Turn}
use Rattle.anb_c.specs.Turning.{GoesOn}
use Rattle.anb_c.proofs.Turning.{fails_again, goes_on, stands_in}
use Rattle.anb_c.proofs.session.advance.Goals as goal

pub returns-clause-goes : goal.returns-clause-goes
returns-clause-goes c = λ code p sent at.
    let live = c.in-Some.live in
    let new = c.advance-turn.result.1 in
    let turn = c.advance-turn.result.0 in
    let s = stands_in code p sent c.args.session.now live (sym c.take.ensures.value ∙ c.in-Some.is) c.requires at in
    subst (λ (o : Option (List ℕ)). GoesOn code p sent (record { live = Some new; pending = o }) turn) (sym c.requires)
    (goes_on code p sent live new s turn c.advance-turn.ensures.turned (λ some. c.advance-turn.ensures.stands code p sent some s))

pub returns-clause-waits : goal.returns-clause-waits
returns-clause-waits c = λ event is.
    (c.requires, (subst (λ (t : Turn). Turned c.in-Some.live.machine c.advance-turn.result.1.machine t) is c.advance-turn.ensures.turned).2)

pub returns-clause-failed : goal.returns-clause-failed
returns-clause-failed c = λ failed.
    fails_again c.args.session.now c.in-Some.live c.advance-turn.result.1 c.advance-turn.result.0 (sym c.take.ensures.value ∙ c.in-Some.is) c.advance-turn.ensures.again failed
