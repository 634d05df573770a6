use Rattle.std.proofs.Common.{◌≡◌, ℕ, List, map, take}
use Rattle.anb_plays.specs.Honest.{honest}
use Rattle.anb_algebra.specs.ByteMeaning.{byte_meaning}
use Rattle.anb_compile.specs.Emitting.{known_in}
use Rattle.anb_protocol.specs.Views.{plan_event}
use Rattle.anb_honest.specs.Given.{Gives}
use Rattle.anb_honest.proofs.beginning.values_of.Given as goal

abbrev pub invariant-loop-event : goal.invariant-loop-event
invariant-loop-event l = (atoms : ℕ → List ℕ) → Gives l.given atoms
    → l.values.items ≡ map (honest (byte_meaning l.algebra.formats l.algebra.suite) atoms) (known_in (map plan_event (take l.event-index l.event-items)))
