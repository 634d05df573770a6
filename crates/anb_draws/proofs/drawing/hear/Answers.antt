use Rattle.std.proofs.Common.{◌≤◌, ℕ, List, ◌∷◌, length, All, sym, ap, ◌∙◌, subst}
use Rattle.std.proofs.lemmas.List.Elements.{All-from_recursion, recursion_from_All}
use Rattle.anb_base.specs.declared.TheConstants.{ARRIVAL}
use Rattle.anb_machine.specs.Machines.{gives}
use Rattle.anb_draws.proofs.drawing.hear.Goals as goal

pub loop-arrival-preserved : goal.loop-arrival-preserved
loop-arrival-preserved c =
    let arrival = c.in-Some.arrival in
    let rest = c.next.new.self.rest.items in
    let short = recursion_from_All (λ (b : List ℕ). length b ≤ ARRIVAL) (arrival ∷ rest) (subst (All (λ (b : List ℕ). length b ≤ ARRIVAL)) c.in-Some.ensures.steps.0 c.loop-arrival.invariant.short) in
    record {
      gives = sym (c.arrive.ensures.gives rest) ∙ sym (c.in-Wants.ensures.turned.0 (arrival ∷ rest)) ∙ ap (gives c.loop-arrival.machine) (sym c.in-Some.ensures.steps.0) ∙ c.loop-arrival.invariant.gives;
      short = All-from_recursion (λ (b : List ℕ). length b ≤ ARRIVAL) rest short.1;
    }
