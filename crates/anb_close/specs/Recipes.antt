-- Each entry's recipe over the labels.
use Rattle.std.specs.Prelude.{List, [], ◌∷◌, ◌++◌, unwrap_or, slice_get}
use Rattle.anb_term.specs.Tree.{trees_of}
use Rattle.anb_term.specs.Value.{RecipeTree, label, part}
use Rattle.anb_close.specs.Rows.{mades_recipes}
use Rattle.anb_close.specs.declared.entry.Entry.{Entry}
use Rattle.anb_close.specs.declared.entry.Origin.{Origin}
use Rattle.anb_close.specs.declared.entry.Origin.TheVariants.{Label, Part}

-- an origin written out, where the entries before it have these recipes
abbrev pub recipe_for : List RecipeTree → Origin → RecipeTree
recipe_for rcs (Label n) = label n
recipe_for rcs (Part o j ks i) = part o j (mades_recipes rcs (trees_of ks)) (unwrap_or (slice_get rcs i) (label 0))

abbrev pub recipes_from : List RecipeTree → List Entry → List RecipeTree
recipes_from rcs [] = rcs
recipes_from rcs (e ∷ es) = recipes_from (rcs ++ recipe_for rcs e.origin ∷ []) es

abbrev pub recipes : List Entry → List RecipeTree
recipes es = recipes_from [] es
