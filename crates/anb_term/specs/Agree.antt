-- When labels' values agree with their terms, and what is given for a term.
use Rattle.std.specs.Prelude.{◌≡◌, List, length, Bool, Some}
use Rattle.anb_term.specs.declared.term.Op.{Op}
use Rattle.anb_term.specs.Tree.{Tree}
use Rattle.anb_term.specs.Value.{Meaning, RecipeTree, value}
use Rattle.anb_term.specs.FreeAlgebra.{terms_over}

-- some recipe over labels with these terms has the term
abbrev pub HasRecipe : (Op → Bool) → List Tree → Tree → Type 0
HasRecipe has frame t = (r : RecipeTree) × (value (terms_over has) frame r ≡ Some t)

module _ {A : Type 0} (m : Meaning A) (frame : List Tree) (vs : List A) where
  -- any two recipes that have one and the same term have defined and equal values
  pub record Agree : Type 0 where
    pub long : length vs ≡ length frame
    pub one : (r s : RecipeTree) (t : Tree) → value (terms_over m.has) frame r ≡ Some t → value (terms_over m.has) frame s ≡ Some t
        → (b : A) × (value m vs r ≡ Some b) × (value m vs s ≡ Some b)

  -- some recipe has the term, and each recipe that has it has the value
  abbrev pub Gives : Tree → A → Type 0
  Gives t b = HasRecipe m.has frame t × ((r : RecipeTree) → value (terms_over m.has) frame r ≡ Some t → value m vs r ≡ Some b)
