-- Lists that show why a term has no recipe.
use Rattle.std.specs.Prelude.{◌≡◌, List, take, drop, Bool, true, ◌⊎◌}
use Rattle.std.specs.List.{AllByRecursion}
use Rattle.anb_term.specs.declared.term.Op.{Op}
use Rattle.anb_term.specs.Operator.{keys, undoable}
use Rattle.anb_term.specs.Tree.{Tree, leaf, node, Trees, none, more, list_of}
use Rattle.anb_term.specs.Composes.{Among, Composes}
use Rattle.anb_term.specs.Agree.{HasRecipe}

-- S holds the frame's terms, and the parts of each of its terms whose keys compose from it; t doesn't compose from it.
pub record IsShut (frame S : List Tree) (t : Tree) : Type 0 where
  pub labels : AllByRecursion (Among S) frame
  pub parts : (o : Op) (us : Trees) → Among S (node o us) → undoable o ≡ true → AllByRecursion (Composes S) (take (keys o) (list_of us)) → AllByRecursion (Among S) (drop (keys o) (list_of us))
  pub apart : Composes S t → ⊥

-- so no recipe over the frame has the term, whatever operators there are
abbrev pub ShutHasNone : Type 0
ShutHasNone = (has : Op → Bool) (frame S : List Tree) (t : Tree) → IsShut frame S t → HasRecipe has frame t → ⊥

abbrev mutual
  -- u is t, or occurs in it
  pub Occurs : Tree → Tree → Type 0
  Occurs u (leaf n) = u ≡ leaf n
  Occurs u (node o ts) = (u ≡ node o ts) ⊎ OccursIn u ts

  pub OccursIn : Tree → Trees → Type 0
  OccursIn u none = ⊥
  OccursIn u (more t ts) = Occurs u t ⊎ OccursIn u ts
