-- The recipe that a `Recipe` stands for.
use Rattle.std.specs.Prelude.{ℕ, zero, suc, List, [], ◌∷◌, ◌++◌, map}
use Rattle.anb_term.specs.Value.{RecipeTree, label, build, part, RecipeTrees, recipe_trees}
use Rattle.anb_term.specs.declared.recipe.Recipe.{Recipe, fold-Recipe}
use Rattle.anb_term.specs.declared.recipe.Recipe.TheOpen.{Recipe-F}

abbrev pub recipe_step : Recipe-F RecipeTree → RecipeTree
recipe_step (Recipe-F.Label n) = label n
recipe_step (Recipe-F.Build o rs) = build o (recipe_trees rs.items)
recipe_step (Recipe-F.Part o j ks r) = part o j (recipe_trees ks.items) r.value

abbrev pub recipe_of : Recipe → RecipeTree
recipe_of = fold-Recipe RecipeTree recipe_step

abbrev pub recipes_of : List Recipe → RecipeTrees
recipes_of rs = recipe_trees (map recipe_of rs)

abbrev pub first_places : ℕ → List ℕ
first_places zero = []
first_places (suc n) = first_places n ++ n ∷ []
