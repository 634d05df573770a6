use Rattle.std.proofs.Common.{List, ℕ, ◌∷◌, inr, refl, sym, ap, ◌∙◌}
use Rattle.anb_plays.specs.Plays.{done, stopped}
use Rattle.anb_machine.specs.Machines.{gives}
use Rattle.anb_park.proofs.Framed.{not_so}
use Rattle.anb_park.proofs.Following.{along_saying, along_receiving, along_to, along_elsewhere}
use Rattle.anb_park.proofs.resuming.run_over.Goals.{in-Message, in-Wants+in-Some+in-Ok}
use Rattle.anb_park.proofs.resuming.run_over.Goals as goal

pub returns-in_default-clause-ok : goal.returns-in_default-clause-ok
returns-in_default-clause-ok c = λ bs a.
    let t = c.in-Wants.ensures.turned in
    along_to c.args.machine.now c.turns.machine c.advance.new.self c.args.frames.now c.turns.rest.now c.in-Wants.field-0 c.turns.invariant.0 t.0 t.1 t.2 (λ b r fits e. not_so (c.in_default.ensures.again b r fits e)) bs a

pub returns-in-Done-clause-err : goal.returns-in-Done-clause-err
returns-in-Done-clause-err c =
    inr (refl, λ bs a. along_elsewhere c.args.machine.now c.turns.machine c.args.frames.now c.turns.rest.now done c.turns.invariant.0 c.in-Done.ensures.turned.1 (λ e is. cc) bs a)

pub returns-in-Stopped-clause-err : goal.returns-in-Stopped-clause-err
returns-in-Stopped-clause-err c =
    let end = stopped c.in-Stopped.field-0.event c.in-Stopped.field-0.at in
    inr (refl, λ bs a. along_elsewhere c.args.machine.now c.turns.machine c.args.frames.now c.turns.rest.now end c.turns.invariant.0 c.in-Stopped.ensures.turned.1 (λ e is. cc) bs a)

pub turns-preserved : goal.turns-preserved
turns-preserved c = elim c.match-advance.branch [
  | in-Message w ↦ rw (w.machine-is, w.rest-is)
      ((along_saying c.args.machine.now c.turns.machine c.advance.new.self c.args.frames.now c.turns.rest.now w.in-Message.field-0 c.turns.invariant.0 w.in-Message.ensures.turned.0), c.advance.ensures.code ∙ c.turns.invariant.1)
  | in-Wants+in-Some+in-Ok w ↦
      let b = w.in-Some.arrival.now in
      let same = w.new.ensures ∙ w.in-Ok.ensures.items in
      rw (w.machine-is, w.rest-is) (
        (along_receiving c.args.machine.now c.turns.machine c.advance.new.self w.arrive.new.self c.args.frames.now c.turns.rest.now b w.in-Some.behind.now c.turns.invariant.0 w.in-Wants.ensures.turned.0
            (λ xs. ap (λ (v : List ℕ). gives c.advance.new.self (v ∷ xs)) (sym same) ∙ w.arrive.ensures.gives xs) w.in-Some.ensures.fits w.in-Some.ensures.some),
        w.arrive.ensures.code ∙ c.advance.ensures.code ∙ c.turns.invariant.1,
      )
]

pub turns-preserved-after-advance : goal.turns-preserved-after-advance
turns-preserved-after-advance c = elim c.match-advance.branch [
  | in-Message w ↦ rw (w.machine-is, w.rest-is)
      ((along_saying c.args.machine.now c.turns.machine c.advance.new.self c.args.frames.now c.turns.rest.now w.in-Message.field-0 c.turns.invariant.0 w.in-Message.ensures.turned.0), c.advance.ensures.code ∙ c.turns.invariant.1)
  | in-Wants+in-Some+in-Ok w ↦
      let b = w.in-Some.arrival.now in
      let same = w.new.ensures ∙ w.in-Ok.ensures.items in
      rw (w.machine-is, w.rest-is) (
        (along_receiving c.args.machine.now c.turns.machine c.advance.new.self w.arrive.new.self c.args.frames.now c.turns.rest.now b w.in-Some.behind.now c.turns.invariant.0 w.in-Wants.ensures.turned.0
            (λ xs. ap (λ (v : List ℕ). gives c.advance.new.self (v ∷ xs)) (sym same) ∙ w.arrive.ensures.gives xs) w.in-Some.ensures.fits w.in-Some.ensures.some),
        w.arrive.ensures.code ∙ c.advance.ensures.code ∙ c.turns.invariant.1,
      )
]
