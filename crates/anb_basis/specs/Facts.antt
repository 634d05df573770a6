-- Three facts on the values of chosen compositions, from which agreement follows.
use Rattle.std.specs.Prelude.{◌≡◌, ℕ, List, length, map, IsTrue, Some, slice_get, take, drop}
use Rattle.std.specs.List.{AllByRecursion}
use Rattle.anb_term.specs.declared.term.Op.{Op}
use Rattle.anb_term.specs.Operator.{arity, keys, undoable}
use Rattle.anb_term.specs.Tree.{Tree, node, Trees, trees_of, list_of}
use Rattle.anb_term.specs.Value.{Meaning}

-- P holds of the terms that compose, and of gives the value of the chosen composition of each
pub record ThreeFacts {A : Type 0} (m : Meaning A) (frame : List Tree) (vs : List A) (P : Tree → Type 0) (of : Tree → A) : Type 0 where
  pub labels : (n : ℕ) (t : Tree) → slice_get frame n ≡ Some t → P t × (slice_get vs n ≡ Some (of t))
  pub builds : (o : Op) (ts : List Tree) → IsTrue (m.has o) → length ts ≡ arity o → AllByRecursion P ts
      → P (node o (trees_of ts)) × (of (node o (trees_of ts)) ≡ m.built o (map of ts))
  pub opens : (o : Op) (ts : Trees) → IsTrue (m.has o) → IsTrue (undoable o) → P (node o ts) → AllByRecursion P (take (keys o) (list_of ts))
      → AllByRecursion P (drop (keys o) (list_of ts)) × (m.undone o (map of (take (keys o) (list_of ts))) (of (node o ts)) ≡ Some (map of (drop (keys o) (list_of ts))))
