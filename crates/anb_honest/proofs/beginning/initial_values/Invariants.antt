use Rattle.std.proofs.Common.{◌≡◌, ℕ, List, map, take}
use Rattle.anb_plays.specs.Honest.{honest}
use Rattle.anb_algebra.specs.ByteMeaning.{byte_meaning}
use Rattle.anb_compile.specs.Emitting.{known_in}
use Rattle.anb_protocol.specs.Plans.{PlanEvent}
use Rattle.anb_honest.specs.Given.{Gives, items_of}
use Rattle.anb_honest.proofs.beginning.initial_values.Given as goal

abbrev pub invariant-loop-plan : goal.invariant-loop-plan
invariant-loop-plan l = (atoms : ℕ → List ℕ) → Gives l.given atoms
    → map items_of l.all.items ≡ map (λ (plan : List PlanEvent). map (honest (byte_meaning l.algebra.formats l.algebra.suite) atoms) (known_in plan)) (take l.plan-index l.plans)
