-- The terms of a pool that each term is an operand of, by number.
use Rattle.std.specs.Prelude.{◌≡◌, ℕ, zero, suc, ◌<◌, List, [], ◌∷◌, Some, slice_get, Vec}
use Rattle.std.specs.Global.{Global}
use Rattle.anb_term.specs.declared.term.Op.{Op}
use Rattle.anb_term.specs.Tree.{Tree, node, trees_of}
use Rattle.anb_intern.specs.declared.node.NodeId.{NodeId}
use Rattle.anb_intern.specs.declared.node.Node.{Node}
use Rattle.anb_intern.specs.declared.node.Node.TheVariants.{Atom, Apply}
use Rattle.anb_intern.specs.Nodes.{operands_at, AreUnder}
use Rattle.anb_close.specs.Listed.{IsListed}

-- the list at a place, or none
abbrev pub list_at : List (Vec ℕ Global) → ℕ → List ℕ
list_at [] w = []
list_at (p ∷ ps) zero = p.items
list_at (p ∷ ps) (suc w) = list_at ps w

-- what was listed still is
abbrev pub ListsStay : List (Vec ℕ Global) → List (Vec ℕ Global) → Type 0
ListsStay ps ps' = (w n : ℕ) → IsListed (list_at ps w) n → IsListed (list_at ps' w) n

-- a number stands under each of these
abbrev pub IsUnderAll : List (Vec ℕ Global) → List NodeId → ℕ → Type 0
IsUnderAll ps ids n = (j : ℕ) (id : NodeId) → slice_get ids j ≡ Some id → IsListed (list_at ps id.0) n

-- a node's number stands under each of its operands
abbrev pub IsLinked : List (Vec ℕ Global) → Node → ℕ → Type 0
IsLinked ps (Atom m) n = Unit {0}
IsLinked ps (Apply o ids) n = IsUnderAll ps ids.items n

-- the term with this number is the operator on the terms with these numbers, which come before
abbrev pub IsNode : List Tree → ℕ → Op → List NodeId → Type 0
IsNode ts n o ids = (slice_get ts n ≡ Some (node o (trees_of (operands_at ts ids)))) × AreUnder n ids

-- each of the first terms stands under each of its operands
abbrev pub AreLinked : List Tree → List (Vec ℕ Global) → ℕ → Type 0
AreLinked ts ps m = (n : ℕ) (o : Op) (ids : List NodeId) → n < m → IsNode ts n o ids → IsUnderAll ps ids n
