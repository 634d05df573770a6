-- Recipes, and their value over labels in any algebra.
use Rattle.std.specs.Prelude.{ℕ, List, [], ◌∷◌, length, Bool, ◌&&◌, ◌==◌, IsTrue, if◌then◌else◌, Option, Some, None, option_and_then, slice_get}
use Rattle.anb_term.specs.declared.term.Op.{Op}
use Rattle.anb_term.specs.Operator.{arity, keys}

mutual
  -- a label, an operator on recipes, or a part of a recipe that is undone with keys
  pub data RecipeTree : Type 0 where
    label : ℕ → RecipeTree
    build : Op → RecipeTrees → RecipeTree
    part : Op → ℕ → RecipeTrees → RecipeTree → RecipeTree

  pub data RecipeTrees : Type 0 where
    no_recipes : RecipeTrees
    more_recipes : RecipeTree → RecipeTrees → RecipeTrees

abbrev pub recipe_trees : List RecipeTree → RecipeTrees
recipe_trees [] = no_recipes
recipe_trees (r ∷ rs) = more_recipes r (recipe_trees rs)

-- what an algebra means: which of the type's members are its values, its operators, what an operator gives for operands,
-- the parts of a value undone with keys, and whether two are the same
pub record Meaning (A : Type 0) : Type 0 where
  pub is_value : A → Bool
  pub has : Op → Bool
  pub built : Op → List A → A
  pub undone : Op → List A → A → Option (List A)
  pub same : A → A → Bool

-- first and rest, where both are there
abbrev pub cons_both : {A : Type 0} → Option A → Option (List A) → Option (List A)
cons_both None o = None
cons_both (Some x) None = None
cons_both (Some x) (Some xs) = Some (x ∷ xs)

module _ {A : Type 0} (m : Meaning A) where
  -- an operator of the algebra on as many operands as it takes
  abbrev pub build_if : Op → List A → Option A
  build_if o xs = if m.has o && (length xs == arity o) then Some (m.built o xs) else None

  -- part j of a value undone with as many keys as the operator has
  abbrev pub part_if : Op → ℕ → List A → A → Option A
  part_if o j ks v = if m.has o && (length ks == keys o) then option_and_then (λ ps. slice_get ps j) (m.undone o ks v) else None

  abbrev mutual
    -- the value of a recipe over the labels' values
    pub value : List A → RecipeTree → Option A
    value frame (label n) = slice_get frame n
    value frame (build o rs) = option_and_then (build_if o) (values frame rs)
    value frame (part o j ks r) = option_and_then (λ kv. option_and_then (part_if o j kv) (value frame r)) (values frame ks)

    -- those of several, where each has one
    pub values : List A → RecipeTrees → Option (List A)
    values frame no_recipes = Some []
    values frame (more_recipes r rs) = cons_both (value frame r) (values frame rs)

-- the algebra has the operators of a recipe
abbrev mutual
  pub HasAll : (Op → Bool) → RecipeTree → Type 0
  HasAll has (label n) = Unit {0}
  HasAll has (build o rs) = IsTrue (has o) × HasEach has rs
  HasAll has (part o j ks r) = IsTrue (has o) × HasEach has ks × HasAll has r

  pub HasEach : (Op → Bool) → RecipeTrees → Type 0
  HasEach has no_recipes = Unit {0}
  HasEach has (more_recipes r rs) = HasAll has r × HasEach has rs
