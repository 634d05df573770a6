-- Checks, what they demand, and which ones entries have.
use Rattle.std.specs.Prelude.{◌≡◌, ℕ, suc, ◌<◌, ◌≤◌, List, [], ◌∷◌, ◌++◌, map, drop, Bool, true, false, IsTrue, Some, None, slice_get, unwrap_or, ◌⊎◌, length}
use Rattle.std.specs.List.{AllByRecursion}
use Rattle.anb_term.specs.declared.term.Op.{Op}
use Rattle.anb_term.specs.Operator.{undoable}
use Rattle.anb_term.specs.Tree.{Tree, node, Trees, trees_of}
use Rattle.anb_term.specs.Value.{Meaning, RecipeTree, label}
use Rattle.anb_term.specs.Demand.{Demand, opens, equals, holds}
use Rattle.anb_close.specs.Rows.{made_for, mades_for, made_recipe, mades_recipes}
use Rattle.anb_close.specs.declared.entry.Entry.{Entry}
use Rattle.anb_close.specs.declared.entry.Origin.TheVariants.{Part}
use Rattle.anb_close.specs.declared.made.Made.{Made}
use Rattle.anb_close.specs.MadeView.{made_tree}
use Rattle.anb_close.specs.Entries.{rows, terms_of, openings_from}
use Rattle.anb_close.specs.Listed.{IsListed}
use Rattle.anb_close.specs.Recipes.{recipes}
use Rattle.anb_basis.specs.declared.check.Check.{Check}
use Rattle.anb_basis.specs.declared.check.Check.TheVariants.{Open, Equal}

-- the recipe of an entry over the labels
abbrev pub entry_recipe : List Entry → ℕ → RecipeTree
entry_recipe es i = unwrap_or (slice_get (recipes es) i) (label 0)

-- what a check demands: that the undoing is defined, or that the entry and the composition have one value
abbrev pub demand_of : List Entry → Check → Demand
demand_of es (Open x) = opens x.op (mades_recipes (recipes es) (trees_of x.keys)) (entry_recipe es x.of)
demand_of es (Equal i w) = equals (entry_recipe es i) (made_recipe (recipes es) (made_tree w))

abbrev pub demands_of : List Entry → List Check → List Demand
demands_of es cs = map (demand_of es) cs

-- a check of entries holds for the labels' values
abbrev pub Holds : {A : Type 0} → Meaning A → Check → List Entry → List A → Type 0
Holds m c es vs = IsTrue (holds m vs (demand_of es c))

-- the composition with which an entry is compared: its own, for a double, or that of its operands
abbrev pub IsComparedWith : List Entry → ℕ → Tree → Type 0
IsComparedWith es i c = ((t : Tree) × (slice_get (rows es) i ≡ Some None) × (slice_get (terms_of es) i ≡ Some t) × (made_for (rows es) t ≡ Some c))
    ⊎ ((o : Op) × (us : Trees) × (ms : Trees) × (slice_get (rows es) i ≡ Some (Some (node o us))) × (undoable o ≡ false) × (mades_for (rows es) us ≡ Some ms) × (node o ms ≡ c))

-- a check that an entry has
abbrev pub Fits : List Entry → Check → Type 0
Fits es (Open x) = (e : Entry) × (slice_get es x.first ≡ Some e) × (e.origin ≡ Part x.op 0 x.keys x.of)
Fits es (Equal i w) = IsComparedWith es i (made_tree w)

-- all checks that entries have
pub record AreAll (es : List Entry) (cs : List Check) : Type 0 where
  pub opens : (f : ℕ) (e : Entry) (o : Op) (ks : List Tree) (i : ℕ) → slice_get es f ≡ Some e → e.origin ≡ Part o 0 ks i → (k : ℕ) × (slice_get cs k ≡ Some (Open (record { op = o; keys = ks; of = i; first = f })))
  pub equals : (i : ℕ) (c : Tree) → IsComparedWith es i c → (k : ℕ) × (w : Made) × (slice_get cs k ≡ Some (Equal i w)) × (made_tree w ≡ c)

-- the entry that a check is of
abbrev pub entry_of : Check → ℕ
entry_of (Open x) = x.of
entry_of (Equal i w) = i

abbrev pub trues : List Bool → ℕ
trues [] = 0
trues (true ∷ bs) = suc (trues bs)
trues (false ∷ bs) = trues bs

-- checks that were given, with marks at the entries that have one
pub record IsGiven (es : List Entry) (cs : List Check) (ms : List Bool) : Type 0 where
  pub fits : (k : ℕ) (c : Check) → slice_get cs k ≡ Some c → Fits es c
  pub long : length ms ≡ length es
  pub of_check : (k : ℕ) (c : Check) → slice_get cs k ≡ Some c → slice_get ms (entry_of c) ≡ Some true
  pub of_mark : (i : ℕ) → slice_get ms i ≡ Some true → (k : ℕ) × (c : Check) × (slice_get cs k ≡ Some c) × (entry_of c ≡ i)
  pub once : (k j : ℕ) (c d : Check) → slice_get cs k ≡ Some c → slice_get cs j ≡ Some d → entry_of c ≡ entry_of d → k ≡ j
  pub counted : trues ms ≡ length cs

-- the openings of these first entries are marked
abbrev pub OpensMarked : List Entry → List Bool → ℕ → Type 0
OpensMarked es ms n = (f : ℕ) (e : Entry) (o : Op) (ks : List Tree) (i : ℕ) → f < n → slice_get es f ≡ Some e → e.origin ≡ Part o 0 ks i → slice_get ms i ≡ Some true

-- and those of the entries from there on are not
abbrev pub OpensUnmarked : List Entry → List Bool → ℕ → Type 0
OpensUnmarked es ms n = (f : ℕ) (e : Entry) (o : Op) (ks : List Tree) (i : ℕ) → n ≤ f → slice_get es f ≡ Some e → e.origin ≡ Part o 0 ks i → slice_get ms i ≡ Some true → ⊥

-- those of the first entries that can be compared are marked
abbrev pub EqualsMarked : List Entry → List Bool → ℕ → Type 0
EqualsMarked es ms n = (i : ℕ) (c : Tree) → i < n → IsComparedWith es i c → slice_get ms i ≡ Some true

-- those of the first entries that can be compared are marked or listed
abbrev pub RestMarked : List Entry → List Bool → ℕ → List ℕ → Type 0
RestMarked es ms n ks = (i : ℕ) (c : Tree) → i < n → IsComparedWith es i c → (slice_get ms i ≡ Some true) ⊎ IsListed ks i

-- marks stay
abbrev pub MarksStay : List Bool → List Bool → Type 0
MarksStay ms ms' = (i : ℕ) → slice_get ms i ≡ Some true → slice_get ms' i ≡ Some true

-- all checks that the entries have were given, each once
pub record IsBasis (es : List Entry) (cs : List Check) (ms : List Bool) : Type 0 where
  pub given : IsGiven es cs ms
  pub opens : OpensMarked es ms (length es)
  pub equals : EqualsMarked es ms (length es)

abbrev pub After : {A : Type 0} → List A → List A → Type 0
After {A} xs ys = (later : List A) × (ys ≡ xs ++ later)

-- no entry has two checks
abbrev pub IsOnce : List Check → Type 0
IsOnce cs = (k j : ℕ) (c d : Check) → slice_get cs k ≡ Some c → slice_get cs j ≡ Some d → entry_of c ≡ entry_of d → k ≡ j

abbrev pub AllFit : List Entry → List Check → Type 0
AllFit es cs = (k : ℕ) (c : Check) → slice_get cs k ≡ Some c → Fits es c

-- a check that compares
abbrev pub IsEqual : Check → Type 0
IsEqual (Open x) = ⊥
IsEqual (Equal i w) = Unit {0}

-- checks that compare came
abbrev pub AfterEquals : List Check → List Check → Type 0
AfterEquals cs cs' = (equals : List Check) × AllByRecursion IsEqual equals × (cs' ≡ cs ++ equals)

-- the checks of the openings of entries from a place on came, in order, and then checks that compare
pub record InOrder (n : ℕ) (es : List Entry) (cs cs' : List Check) : Type 0 where
  pub equals : List Check
  pub are : AllByRecursion IsEqual equals
  pub is : cs' ≡ cs ++ (map Open (openings_from n (drop n es)) ++ equals)
