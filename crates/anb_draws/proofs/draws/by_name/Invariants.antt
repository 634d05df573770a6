use Rattle.std.proofs.Common.{◌≡◌, ℕ}
use Rattle.anb_draws.specs.Draws.{value_in}
use Rattle.anb_draws.specs.Telling.{first_of, value_among}
use Rattle.anb_draws.proofs.draws.by_name.Given as goal

abbrev pub invariant-loop-drawn : goal.invariant-loop-drawn
invariant-loop-drawn l =
    (name : ℕ) → first_of (value_in l.values.items name) (value_among l.drawn-iterator.rest.items name) ≡ value_among l.fn.found.items name
