-- The nodes of a pool.
use Rattle.std.specs.Prelude.{◌≡◌, ℕ, ◌<◌, List, [], ◌∷◌, ◌++◌, length, Some, slice_get}
use Rattle.anb_term.specs.declared.term.Op.{Op}
use Rattle.anb_term.specs.Tree.{Tree}
use Rattle.anb_intern.specs.declared.node.NodeId.{NodeId}
use Rattle.anb_intern.specs.declared.node.Node.{Node}
use Rattle.anb_intern.specs.declared.node.Node.TheVariants.{Atom, Apply}
use Rattle.anb_intern.specs.Nodes.{tree_at, IsOver}

-- the terms of nodes that come after these terms
abbrev pub trees_after : List Tree → List Node → List Tree
trees_after ts [] = ts
trees_after ts (k ∷ ks) = trees_after (ts ++ tree_at ts k ∷ []) ks

abbrev pub trees_at : List Node → List Tree
trees_at ks = trees_after [] ks

-- what a node is, without where it lies in memory
pub data NodeView : Type 0 where
  atom : ℕ → NodeView
  apply : Op → List NodeId → NodeView

abbrev pub view : Node → NodeView
view (Atom n) = atom n
view (Apply o ids) = apply o ids.items

-- each node stands over those before it, and none stands twice
pub record IsPool (ks : List Node) : Type 0 where
  pub over : (i : ℕ) (k : Node) → slice_get ks i ≡ Some k → IsOver i k
  pub once : (i j : ℕ) (k l : Node) → slice_get ks i ≡ Some k → slice_get ks j ≡ Some l → view k ≡ view l → i ≡ j
  pub few : length ks < 4294967296
