use Rattle.std.proofs.Common.{◌≡◌, ◌∙◌, ◌∷◌, List, ℕ, IsTrue, sym, subst}
use Rattle.anb_machine.specs.Machines.{MachineValue, gives, waits}
use Rattle.anb_machine.specs.Standing.{coming}
use Rattle.anb_machine.proofs.Lean.{keeps}
use Rattle.anb_machine.proofs.Turns.{gives_waiting}
use Rattle.anb_machine.proofs.machine.Machine.arrive.Goals as goal

pub returns-clause-gives : goal.returns-clause-gives
returns-clause-gives c =
    let s = c.self.inside in
    let P : MachineValue → Type 0 = λ v. (arrivals : List (List ℕ)) → gives v (c.args.bytes ∷ arrivals) ≡ coming c.arrive.new.self arrivals in
    let W : MachineValue → Type 0 = λ v. IsTrue (waits v) in
    subst P c.self.view_is (λ arrivals. gives_waiting s.state s.last (subst W (sym c.self.view_is) c.requires.waits) (c.args.bytes ∷ arrivals) ∙ c.arrive.ensures.comes arrivals)

pub returns-clause-keeps : goal.returns-clause-keeps
returns-clause-keeps c = keeps c.arrive.new.self c.arrive.ensures.lean
