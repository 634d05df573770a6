use Rattle.std.proofs.Common.{◌≡◌, ◌∙◌, None, sym, subst}
use Rattle.anb_machine.specs.Machines.{KeepsLive, MachineValue, Turned, answer_after}
use Rattle.anb_machine.specs.Inside.{value_of}
use Rattle.anb_machine.specs.declared.turn.Last.{Last}
use Rattle.anb_machine.proofs.Lean.{keeps}
use Rattle.anb_machine.proofs.Turns.{turned, first}
use Rattle.anb_machine.proofs.machine.Machine.advance.Goals as goal

pub returns-clause-turned : goal.returns-clause-turned
returns-clause-turned c =
    let s = c.self.inside in
    let t = c.advance-turn.new.self in
    let turn = c.advance-turn.result in
    let e = c.advance-turn.ensures in
    let ongoing : answer_after s.last ≡ None = sym c.again.ensures ∙ c.in_default.is in
    let Old : MachineValue → Type 0 = λ v. Turned v (value_of t c.last_of-self-inside.result) turn in
    let New : Last → Type 0 = λ l. Turned (value_of s.state s.last) (value_of t l) turn in
    subst Old c.self.view_is (subst New (sym c.last_of-self-inside.ensures) (turned s.state t s.last turn ongoing e.same e.kept e.turned))

pub returns-clause-first : goal.returns-clause-first
returns-clause-first c = first c.args.self.now (value_of c.advance-turn.new.self c.last_of-self-inside.result) c.advance-turn.result (returns-clause-turned c)

pub returns-in-Some-clause-keeps : goal.returns-in-Some-clause-keeps
returns-in-Some-clause-keeps c = subst KeepsLive c.self.view_is (keeps c.self.inside.state c.self.invariant.lean)

pub returns-clause-keeps : goal.returns-clause-keeps
returns-clause-keeps c = keeps c.advance-turn.new.self c.advance-turn.ensures.lean
