-- Straight-line codes over registers: the recipe of each register, and what an instruction demands.
use Rattle.std.specs.Prelude.{ℕ, zero, suc, ◌-◌, List, [], ◌∷◌, ◌++◌, map, unwrap_or, slice_get}
use Rattle.anb_term.specs.declared.term.Op.{Op}
use Rattle.anb_term.specs.declared.term.Op.TheVariants.{Hash}
use Rattle.anb_term.specs.Operator.{arity, keys}
use Rattle.anb_term.specs.Value.{RecipeTree, build, part, RecipeTrees, no_recipes, recipe_trees}
use Rattle.anb_term.specs.Demand.{Demand, opens, equals}

-- an act on registers alone: an operator on some, an undoing, with keys, of one, or a comparison of two
pub data Work : Type 0 where
  make : Op → List ℕ → Work
  undo : Op → List ℕ → ℕ → Work
  equal : ℕ → ℕ → Work

-- what an instruction does: it takes an initial value, draws a nonce, receives, sends a register, or works on registers.
-- Registers are numbered in the order in which they are written
pub data Act : Type 0 where
  takes : Act
  draws : Act
  receives : Act
  sends : ℕ → Act
  works : Work → Act

-- the recipe of a register; one that was not written has one without a value
abbrev pub at_register : List RecipeTree → ℕ → RecipeTree
at_register regs n = unwrap_or (slice_get regs n) (build Hash no_recipes)

abbrev pub at_registers : List RecipeTree → List ℕ → RecipeTrees
at_registers regs ns = recipe_trees (map (at_register regs) ns)

-- the first n parts of a recipe undone with keys
abbrev pub parts : ℕ → Op → RecipeTrees → RecipeTree → List RecipeTree
parts zero o ks r = []
parts (suc n) o ks r = parts n o ks r ++ part o n ks r ∷ []

-- the recipes of the registers that a work writes: an undoing writes all parts
abbrev pub writes : List RecipeTree → Work → List RecipeTree
writes regs (make o ns) = build o (at_registers regs ns) ∷ []
writes regs (undo o ks n) = parts (arity o - keys o) o (at_registers regs ks) (at_register regs n)
writes regs (equal a b) = []

-- what it demands: that the undoing is defined, or that both recipes have one and the same value
abbrev pub demands : List RecipeTree → Work → List Demand
demands regs (make o ns) = []
demands regs (undo o ks n) = opens o (at_registers regs ks) (at_register regs n) ∷ []
demands regs (equal a b) = equals (at_register regs a) (at_register regs b) ∷ []
