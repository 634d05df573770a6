-- Over all operators each recipe's operators are among them.
use Rattle.std.proofs.Common.{true, refl}
use Rattle.anb_term.specs.Value.{RecipeTree, label, build, part, RecipeTrees, no_recipes, more_recipes, HasAll, HasEach}

mutual
  pub has_all : (r : RecipeTree) → HasAll (λ o. true) r
  has_all (label n) = tt
  has_all (build o rs) = (refl, has_each rs)
  has_all (part o j ks r) = (refl, has_each ks, has_all r)

  pub has_each : (rs : RecipeTrees) → HasEach (λ o. true) rs
  has_each no_recipes = tt
  has_each (more_recipes r rs) = (has_all r, has_each rs)
