-- Entries that are closed under opening, and the law that whatever has a recipe then composes.
use Rattle.std.specs.Prelude.{◌≡◌, List, IsTrue, Some, take, drop}
use Rattle.std.specs.List.{AllByRecursion}
use Rattle.anb_term.specs.declared.term.Op.{Op}
use Rattle.anb_term.specs.Operator.{keys, undoable}
use Rattle.anb_term.specs.Tree.{Tree, node, Trees, list_of}
use Rattle.anb_term.specs.Value.{RecipeTree, value}
use Rattle.anb_term.specs.FreeAlgebra.{terms}
use Rattle.anb_term.specs.Composes.{Among, Composes}

-- where the keys of an entry that can be undone compose, its parts compose
abbrev pub IsClosed : List Tree → Type 0
IsClosed es = (o : Op) (ts : Trees) → Among es (node o ts) → IsTrue (undoable o)
    → AllByRecursion (Composes es) (take (keys o) (list_of ts)) → AllByRecursion (Composes es) (drop (keys o) (list_of ts))

-- whatever has a recipe over labels that compose from closed entries composes from them
abbrev pub EveryRecipeComposes : Type 0
EveryRecipeComposes = (es frame : List Tree) → IsClosed es → AllByRecursion (Composes es) frame
    → (r : RecipeTree) (t : Tree) → value terms frame r ≡ Some t → Composes es t
