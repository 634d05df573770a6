use Rattle.std.proofs.Common.{◌≡◌}
use Rattle.anb_term.specs.RecipeView.{first_places}
use Rattle.anb_term.proofs.recipe.places.Given as goal

abbrev pub invariant-loop-i : goal.invariant-loop-i
invariant-loop-i l = l.at.items ≡ first_places l.i
