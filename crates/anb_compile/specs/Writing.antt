-- A code while it is written: what its acts have done of a plan, and in which registers the recipes of
-- the entries are.
use Rattle.std.specs.Prelude.{◌≡◌, ℕ, ◌+◌, ◌-◌, ◌<◌, List, [], ◌∷◌, ◌++◌, length, map, Bool, IsTrue, Some, slice_get, unwrap_or}
use Rattle.anb_base.specs.declared.content.Suite.{Suite}
use Rattle.anb_format.specs.Formats.{FormatValue}
use Rattle.anb_term.specs.declared.term.Op.{Op}
use Rattle.anb_term.specs.Operator.{arity, keys, undoable}
use Rattle.anb_term.specs.Tree.{Tree, leaf, node, Trees, none, more, trees_of, list_of}
use Rattle.anb_term.specs.Value.{RecipeTree, RecipeTrees, label, build, part, no_recipes, more_recipes, Meaning}
use Rattle.anb_term.specs.FreeAlgebra.{terms_over}
use Rattle.anb_term.specs.Demand.{Demand, opens, equals, all_hold}
use Rattle.anb_algebra.specs.ByteMeaning.{byte_meaning, has_operator}
use Rattle.anb_close.specs.Rows.{made_recipe, mades_recipes}
use Rattle.anb_close.specs.MadeView.{made_tree}
use Rattle.anb_basis.specs.declared.check.Check.{Check}
use Rattle.anb_basis.specs.declared.check.Check.TheVariants.{Open, Equal}
use Rattle.anb_plays.specs.Plans.{Event}
use Rattle.anb_plays.specs.Fits.{Place, start}
use Rattle.anb_plays.specs.Reaches.{Reaches}
use Rattle.anb_code.specs.Meaning.{act_of}
use Rattle.anb_compile.specs.declared.built.Built.{Built}
use Rattle.anb_compile.specs.declared.writer.Writer.{Writer}
use Rattle.anb_compile.specs.Sharing.{key, register_at}

-- formats and suite, which give the meaning over byte strings, and a plan
pub record Context : Type 0 where
  pub formats : List FormatValue
  pub suite : Suite
  pub plan : List Event

abbrev pub meaning_in : Context → Meaning (List ℕ)
meaning_in c = byte_meaning c.formats c.suite

-- each entry's register has its recipe
abbrev pub Tracks : List RecipeTree → List RecipeTree → List ℕ → Type 0
Tracks regs entries places = (n k : ℕ) → slice_get places n ≡ Some k → (r : RecipeTree) × (slice_get entries n ≡ Some r) × (slice_get regs k ≡ Some r)

-- registers with recipes in order
abbrev pub HoldEach : List RecipeTree → List ℕ → RecipeTrees → Type 0
HoldEach regs [] no_recipes = Unit {0}
HoldEach regs [] (more_recipes r rs) = ⊥
HoldEach regs (n ∷ ns) no_recipes = ⊥
HoldEach regs (n ∷ ns) (more_recipes r rs) = (slice_get regs n ≡ Some r) × HoldEach regs ns rs

-- each register that was built has the recipe of its operator on those from which it was
pub record HasBuilt (regs : List RecipeTree) (k : List ℕ) (r : ℕ) : Type 0 where
  pub op : Op
  pub from : List ℕ
  pub recipes : RecipeTrees
  pub is : k ≡ key op from
  pub hold : HoldEach regs from recipes
  pub here : slice_get regs r ≡ Some (build op recipes)

abbrev pub HaveBuilt : List RecipeTree → Built → Type 0
HaveBuilt regs b = (k : List ℕ) (r : ℕ) → register_at b k ≡ Some r → HasBuilt regs k r

-- what is written does these events, and then stands at this place
pub record Stands (c : Context) (events : List Event) (entries : List RecipeTree) (w : Writer) (s : Place) : Type 0 where
  pub reaches : Reaches (meaning_in c) (map (act_of c.formats) w.code.items) events (start c.plan) s
  pub next : w.next ≡ length s.regs
  pub tracks : Tracks s.regs entries w.places.items
  pub built : HaveBuilt s.regs w.built

abbrev mutual
  -- a composition over the first k entries, by these operators
  pub IsOver : (Op → Bool) → ℕ → Tree → Type 0
  IsOver has k (leaf n) = n < k
  IsOver has k (node o ms) = IsTrue (has o) × (length (list_of ms) ≡ arity o) × AreOver has k ms

  pub AreOver : (Op → Bool) → ℕ → Trees → Type 0
  AreOver has k none = Unit {0}
  AreOver has k (more m ms) = IsOver has k m × AreOver has k ms

-- with registers that were written since
abbrev pub further : Place → List RecipeTree → Place
further s regs = record s { regs = s.regs ++ regs }

-- a register has this recipe now; nothing was asked since
pub record Composed (c : Context) (events : List Event) (entries : List RecipeTree) (w : Writer) (s : Place) (r : ℕ) (recipe : RecipeTree) : Type 0 where
  pub since : List RecipeTree
  pub stands : Stands c events entries w (further s since)
  pub holds : slice_get (s.regs ++ since) r ≡ Some recipe

abbrev pub Composes : Writer → Writer → Tree → ℕ → Type 0
Composes old new m r = (c : Context) (events : List Event) (entries : List RecipeTree) (s : Place) → IsOver (has_operator c.formats) (length old.places.items) m
    → Stands c events entries old s → Composed c events entries new s r (made_recipe entries m)

pub record ComposedEach (c : Context) (events : List Event) (entries : List RecipeTree) (w : Writer) (s : Place) (rs : List ℕ) (recipes : RecipeTrees) : Type 0 where
  pub since : List RecipeTree
  pub stands : Stands c events entries w (further s since)
  pub hold : HoldEach (s.regs ++ since) rs recipes

abbrev pub ComposesEach : Writer → Writer → List Tree → List ℕ → Type 0
ComposesEach old new ms rs = (c : Context) (events : List Event) (entries : List RecipeTree) (s : Place) → AreOver (has_operator c.formats) (length old.places.items) (trees_of ms)
    → Stands c events entries old s → ComposedEach c events entries new s rs (mades_recipes entries (trees_of ms))

-- the recipe of an entry, and what a check demands
abbrev pub entry_at : List RecipeTree → ℕ → RecipeTree
entry_at entries n = unwrap_or (slice_get entries n) (label 0)

abbrev pub demand_in : List RecipeTree → Check → Demand
demand_in entries (Open x) = opens x.op (mades_recipes entries (trees_of x.keys)) (entry_at entries x.of)
demand_in entries (Equal i w) = equals (entry_at entries i) (made_recipe entries (made_tree w))

-- how many entries it opens
abbrev pub count_opened : Check → ℕ
count_opened (Open x) = arity x.op - keys x.op
count_opened (Equal i w) = 0

-- a check of the first k entries; the next entries are the parts that it opens
abbrev pub IsCheckOf : (Op → Bool) → List RecipeTree → ℕ → Check → Type 0
IsCheckOf has entries k (Open x) =
    IsTrue (has x.op) × IsTrue (undoable x.op) × AreOver has k (trees_of x.keys) × (length x.keys ≡ keys x.op) × (x.of < k)
    × ((j : ℕ) → j < arity x.op - keys x.op → slice_get entries (k + j) ≡ Some (part x.op j (mades_recipes entries (trees_of x.keys)) (entry_at entries x.of)))
IsCheckOf has entries k (Equal i w) = (i < k) × IsOver has k (made_tree w)

-- the same of checks one after another, each of the entries that there are by then
abbrev pub AreChecksOf : (Op → Bool) → List RecipeTree → ℕ → List Check → Type 0
AreChecksOf has entries k [] = Unit {0}
AreChecksOf has entries k (x ∷ xs) = IsCheckOf has entries k x × AreChecksOf has entries (k + count_opened x) xs

-- these demands were asked
pub record Asked (c : Context) (events : List Event) (entries : List RecipeTree) (w : Writer) (s : Place) (ds : List Demand) : Type 0 where
  pub since : List RecipeTree
  pub stands : Stands c events entries w (record { frame = s.frame; regs = s.regs ++ since; asked = s.asked ++ ds })

abbrev pub Asks : Writer → Writer → List Check → Type 0
Asks old new cs = (c : Context) (events : List Event) (entries : List RecipeTree) (s : Place) → AreChecksOf (has_operator c.formats) entries (length old.places.items) cs
    → IsTrue (all_hold (terms_over (has_operator c.formats)) s.frame (map (demand_in entries) cs))
    → Stands c events entries old s → Asked c events entries new s (map (demand_in entries) cs)

abbrev pub count_all_opened : List Check → ℕ
count_all_opened [] = 0
count_all_opened (x ∷ xs) = count_opened x + count_all_opened xs
