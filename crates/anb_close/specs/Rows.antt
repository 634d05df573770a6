-- What stands at each entry's place, and the composition that is chosen for a term.
use Rattle.std.specs.Prelude.{ℕ, suc, List, [], ◌∷◌, ◌++◌, length, Bool, true, false, ◌==◌, if◌then◌else◌, Option, Some, None, option_map, unwrap_or, slice_get}
use Rattle.anb_term.specs.declared.term.Op.{Op}
use Rattle.anb_term.specs.Tree.{Tree, leaf, node, Trees, none, more, list_of, tree_eqb}
use Rattle.anb_term.specs.Value.{RecipeTree, label, build, RecipeTrees, no_recipes, more_recipes}
use Rattle.anb_term.specs.Operator.{arity}

-- a row is an entry's term, or None where the entry composes from those before it
abbrev pub is_at : Option Tree → Tree → Bool
is_at None t = false
is_at (Some u) t = tree_eqb u t

-- the first place where a term stands
abbrev pub place : List (Option Tree) → Tree → Option ℕ
place [] t = None
place (r ∷ rs) t = if is_at r t then Some 0 else option_map suc (place rs t)

abbrev pub both_more : Option Tree → Option Trees → Option Trees
both_more None ms = None
both_more (Some m) None = None
both_more (Some m) (Some ms) = Some (more m ms)

abbrev pub or_built : Option ℕ → Op → Bool → Option Trees → Option Tree
or_built (Some i) o b ms = Some (leaf i)
or_built None o false ms = None
or_built None o true ms = option_map (node o) ms

-- the chosen composition: a tree whose leaves are places
abbrev mutual
  pub made_for : List (Option Tree) → Tree → Option Tree
  made_for rs (leaf n) = option_map leaf (place rs (leaf n))
  made_for rs (node o ts) = or_built (place rs (node o ts)) o (length (list_of ts) == arity o) (mades_for rs ts)

  pub mades_for : List (Option Tree) → Trees → Option Trees
  mades_for rs none = Some none
  mades_for rs (more t ts) = both_more (made_for rs t) (mades_for rs ts)

abbrev pub row_unless : Option Tree → Tree → Option Tree
row_unless (Some m) t = None
row_unless None t = Some t

abbrev pub rows_from : List (Option Tree) → List Tree → List (Option Tree)
rows_from rs [] = rs
rows_from rs (t ∷ ts) = rows_from (rs ++ row_unless (made_for rs t) t ∷ []) ts

-- the rows of entries with these terms
abbrev pub rows_of : List Tree → List (Option Tree)
rows_of ts = rows_from [] ts

-- the terms that stand somewhere
abbrev pub seen : List (Option Tree) → List Tree
seen [] = []
seen (None ∷ rs) = seen rs
seen (Some t ∷ rs) = t ∷ seen rs

-- a composition written out as a recipe, where each entry has one
abbrev mutual
  pub made_recipe : List RecipeTree → Tree → RecipeTree
  made_recipe rcs (leaf i) = unwrap_or (slice_get rcs i) (label 0)
  made_recipe rcs (node o ms) = build o (mades_recipes rcs ms)

  pub mades_recipes : List RecipeTree → Trees → RecipeTrees
  mades_recipes rcs none = no_recipes
  mades_recipes rcs (more m ms) = more_recipes (made_recipe rcs m) (mades_recipes rcs ms)
