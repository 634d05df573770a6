-- A recipe, level by level.
use Rattle.std.proofs.Common.{◌≡◌, ℕ, rules}
use Rattle.anb_term.specs.Value.{label}
use Rattle.anb_term.specs.RecipeView.{recipe_of}
use Rattle.anb_term.specs.declared.recipe.Recipe.{Label, the_lemmas}

pub recipe_of-Label : (n : ℕ) → recipe_of (Label n) ≡ label n
recipe_of-Label n = search (rules, the_lemmas)
