-- Nodes, and the trees that they stand for.
use Rattle.std.specs.Prelude.{◌≡◌, ℕ, ◌+◌, ◌<◌, ◌≤◌, List, [], ◌∷◌, ◌++◌, length, ◌⊎◌, Some, slice_get, unwrap_or}
use Rattle.std.specs.List.{AllByRecursion}
use Rattle.anb_term.specs.declared.term.Op.{Op}
use Rattle.anb_term.specs.Tree.{Tree, leaf, node, Trees, trees_of, list_of}
use Rattle.anb_intern.specs.declared.node.NodeId.{NodeId}
use Rattle.anb_intern.specs.declared.node.Node.{Node}
use Rattle.anb_intern.specs.declared.node.Node.TheVariants.{Atom, Apply}

-- the terms with these numbers
abbrev pub operands_at : List Tree → List NodeId → List Tree
operands_at ts [] = []
operands_at ts (i ∷ is) = unwrap_or (slice_get ts i.0) (leaf 0) ∷ operands_at ts is

-- the term of a node, where the terms have these numbers
abbrev pub tree_at : List Tree → Node → Tree
tree_at ts (Atom n) = leaf n
tree_at ts (Apply o ids) = node o (trees_of (operands_at ts ids.items))

-- these are numbers of the first terms
abbrev pub AreUnder : ℕ → List NodeId → Type 0
AreUnder n [] = Unit {0}
AreUnder n (i ∷ is) = (i.0 < n) × AreUnder n is

-- a node's operands are among the first terms
abbrev pub IsOver : ℕ → Node → Type 0
IsOver n (Atom m) = Unit {0}
IsOver n (Apply o ids) = AreUnder n ids.items

-- equal terms have equal numbers
abbrev pub AreDistinct : List Tree → Type 0
AreDistinct ts = (i j : ℕ) (t : Tree) → slice_get ts i ≡ Some t → slice_get ts j ≡ Some t → i ≡ j

-- a term has a number below this one
abbrev pub Below : List Tree → ℕ → Tree → Type 0
Below ts i u = (j : ℕ) × (j < i) × (slice_get ts j ≡ Some u)

-- each operand comes before
abbrev pub AreBefore : List Tree → Type 0
AreBefore ts = (i : ℕ) (o : Op) (us : Trees) → slice_get ts i ≡ Some (node o us) → AllByRecursion (Below ts i) (list_of us)

-- a term was there, or came last
abbrev pub HasPut : List Tree → Tree → List Tree → Type 0
HasPut ts t ts' = (ts' ≡ ts) ⊎ (ts' ≡ ts ++ t ∷ [])

-- at most so many terms came
pub record HasMore (ts : List Tree) (n : ℕ) (ts' : List Tree) : Type 0 where
  pub more : List Tree
  pub is : ts' ≡ ts ++ more
  pub few : length more ≤ n
