-- What can be demanded of labels' values, and when it holds.
use Rattle.std.specs.Prelude.{◌≡◌, List, [], ◌∷◌, length, Bool, true, false, ◌&&◌, ◌==◌, IsTrue, Option, Some, None, option_and_then, if◌then◌else◌}
use Rattle.anb_term.specs.declared.term.Op.{Op}
use Rattle.anb_term.specs.Operator.{keys}
use Rattle.anb_term.specs.Tree.{Tree}
use Rattle.anb_term.specs.Value.{Meaning, RecipeTree, RecipeTrees, value, values}
use Rattle.anb_term.specs.Lawful.{AreValues}
use Rattle.anb_term.specs.Agree.{Agree}

-- that undoing with these keys is defined, or that two recipes have one and the same value
pub data Demand : Type 0 where
  opens : Op → RecipeTrees → RecipeTree → Demand
  equals : RecipeTree → RecipeTree → Demand

abbrev pub is_there : {B : Type 0} → Option B → Bool
is_there None = false
is_there (Some x) = true

module _ {A : Type 0} (m : Meaning A) where
  -- the parts of a value undone with as many keys as the operator has
  abbrev pub undone_if : Op → List A → A → Option (List A)
  undone_if o ks v = if m.has o && (length ks == keys o) then m.undone o ks v else None

  -- those of recipes' values
  abbrev pub undoing : List A → Op → RecipeTrees → RecipeTree → Option (List A)
  undoing vs o ks r = option_and_then (λ kv. option_and_then (undone_if o kv) (value m vs r)) (values m vs ks)

  -- both are there and are the same
  abbrev pub alike : Option A → Option A → Bool
  alike None y = false
  alike (Some x) None = false
  alike (Some x) (Some y) = m.same x y

  abbrev pub holds : List A → Demand → Bool
  holds vs (opens o ks r) = is_there (undoing vs o ks r)
  holds vs (equals r s) = alike (value m vs r) (value m vs s)

  abbrev pub all_hold : List A → List Demand → Bool
  all_hold vs [] = true
  all_hold vs (d ∷ ds) = holds vs d && all_hold vs ds

  -- values on which all these demands hold agree with the labels' terms
  abbrev pub Suffices : List Tree → List Demand → Type 0
  Suffices frame ds = (vs : List A) → length vs ≡ length frame → AreValues m vs → IsTrue (all_hold vs ds) → Agree m frame vs
