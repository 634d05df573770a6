use Rattle.std.proofs.Common.{◌≡◌}
use Rattle.anb_term.specs.RecipeView.{first_places}
use Rattle.anb_honest.proofs.given.first_places.Given as goal

abbrev pub invariant-loop-i : goal.invariant-loop-i
invariant-loop-i l = l.places.items ≡ first_places l.i
