-- Laws on values of recipes, on Agree and on demands.
use Rattle.std.specs.Prelude.{◌≡◌, ℕ, List, [], ◌∷◌, ◌++◌, length, map, take, drop, Bool, IsTrue, Some, option_map, slice_get}
use Rattle.anb_term.specs.declared.term.Op.{Op}
use Rattle.anb_term.specs.declared.term.Term.{Term}
use Rattle.anb_term.specs.Operator.{arity, keys, undoable}
use Rattle.anb_term.specs.Tree.{Tree, leaf, node, trees_of, AvoidsEach}
use Rattle.anb_term.specs.View.{tree_of}
use Rattle.anb_term.specs.Value.{Meaning, RecipeTree, RecipeTrees, build, part, value, values}
use Rattle.anb_term.specs.Lawful.{AreValues}
use Rattle.anb_term.specs.FreeAlgebra.{terms, terms_over, term_meaning}
use Rattle.anb_term.specs.Agree.{HasRecipe, Agree, Gives}
use Rattle.anb_term.specs.Demand.{Demand, all_hold}

-- a part of a term is an operand of the operator at its root, whose first operands are the keys' terms
abbrev pub PartInTerms : Type 0
PartInTerms = (has : Op → Bool) (frame : List Tree) (o : Op) (j : ℕ) (ks : RecipeTrees) (r : RecipeTree) (t : Tree)
    → value (terms_over has) frame (part o j ks r) ≡ Some t
    → (ts : List Tree) × IsTrue (has o) × IsTrue (undoable o) × (length ts ≡ arity o) × (value (terms_over has) frame r ≡ Some (node o (trees_of ts)))
    × (values (terms_over has) frame ks ≡ Some (take (keys o) ts)) × (slice_get (drop (keys o) ts) j ≡ Some t)

-- over terms a recipe has the value that it has over their trees
abbrev pub TermsAreTrees : Type 0
TermsAreTrees = (vs : List Term) (r : RecipeTree) → option_map tree_of (value term_meaning vs r) ≡ value terms (map tree_of vs) r

module _ {A : Type 0} (m : Meaning A) where
  -- a recipe has at most one value
  abbrev pub OneValue : Type 0
  OneValue = (vs : List A) (r : RecipeTree) (b c : A) → value m vs r ≡ Some b → value m vs r ≡ Some c → b ≡ c

  -- what has a value is built by an operator of the algebra from as many operands as it takes
  abbrev pub BuildsByOwn : Type 0
  BuildsByOwn = (vs : List A) (o : Op) (rs : RecipeTrees) (b : A) → value m vs (build o rs) ≡ Some b
      → (xs : List A) × IsTrue (m.has o) × (length xs ≡ arity o) × (values m vs rs ≡ Some xs) × (b ≡ m.built o xs)

  -- or undone by an operator of the algebra that can be undone, with as many keys as it has
  abbrev pub UndoesByOwn : Type 0
  UndoesByOwn = (vs : List A) (o : Op) (j : ℕ) (ks : RecipeTrees) (r : RecipeTree) (b : A) → value m vs (part o j ks r) ≡ Some b
      → (kv : List A) × (v : A) × (ps : List A) × IsTrue (m.has o) × IsTrue (undoable o) × (length kv ≡ keys o) × (values m vs ks ≡ Some kv)
      × (value m vs r ≡ Some v) × (m.undone o kv v ≡ Some ps) × (slice_get ps j ≡ Some b)

  -- from values recipes give values
  abbrev pub GiveValues : Type 0
  GiveValues = (vs : List A) (r : RecipeTree) (b : A) → AreValues m vs → value m vs r ≡ Some b → IsTrue (m.is_value b)

  -- where the labels agree, exactly one value is given for a term that has a recipe
  abbrev pub GivesOne : Type 0
  GivesOne = (frame : List Tree) (vs : List A) (t : Tree) → Agree m frame vs → HasRecipe m.has frame t
      → (b : A) × Gives m frame vs t b × ((c : A) → Gives m frame vs t c → c ≡ b)

  -- labels that agree still do when an atom that occurs in none of them comes with any value
  abbrev pub NewAtomAgrees : Type 0
  NewAtomAgrees = (frame : List Tree) (vs : List A) (a : ℕ) (x : A) → AreValues m vs → IsTrue (m.is_value x)
      → AvoidsEach a frame → Agree m frame vs → Agree m (frame ++ leaf a ∷ []) (vs ++ x ∷ [])

  -- where the labels agree, what holds of their terms holds of their values
  abbrev pub AgreeHolds : Type 0
  AgreeHolds = (frame : List Tree) (vs : List A) (ds : List Demand) → AreValues m vs → Agree m frame vs
      → IsTrue (all_hold (terms_over m.has) frame ds) → IsTrue (all_hold m vs ds)
