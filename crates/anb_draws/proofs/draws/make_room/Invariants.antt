use Rattle.std.proofs.Common.{◌≡◌, ◌+◌, ◌-◌, ℕ, length}
use Rattle.anb_draws.specs.Draws.{value_in}
use Rattle.anb_draws.proofs.draws.make_room.Given as goal

abbrev pub invariant-loop-values : goal.invariant-loop-values
invariant-loop-values l = (name : ℕ) → value_in l.values.items name ≡ value_in l.initial.values.items name

abbrev pub decreases-loop-values : goal.decreases-loop-values
decreases-loop-values l = l.at + 1 - length l.values.items
