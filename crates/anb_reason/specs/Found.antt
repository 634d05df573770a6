-- Terms that were found to have a recipe, by their texts.
use Rattle.std.specs.Prelude.{◌≡◌, List, map, ◌⊎◌}
use Rattle.std.specs.List.{AllByRecursion}
use Rattle.anb_term.specs.Tree.{Tree}
use Rattle.anb_term.specs.View.{tree_of}
use Rattle.anb_term.specs.Composes.{Among}
use Rattle.anb_term.specs.Agree.{HasRecipe}
use Rattle.anb_algebra.specs.ByteMeaning.{has_operator}
use Rattle.anb_protocol.specs.Protocols.{ProtocolValue}
use Rattle.anb_protocol.specs.Texts.{term_text, IsTermOf}
use Rattle.anb_reason.specs.declared.found.Found.{Found}

abbrev pub trees_in : Found → List Tree
trees_in found = map (λ e. tree_of e.1) found.terms.entries

-- each stands at its text
abbrev pub IsKeyed : ProtocolValue → Found → Type 0
IsKeyed p found = AllByRecursion (λ e. (e.0.items ≡ term_text p (tree_of e.1)) × IsTermOf p (tree_of e.1)) found.terms.entries

-- those of these terms that some recipe gives came
pub record Finds (p : ProtocolValue) (frame : List Tree) (In : Tree → Type 0) (old new : Found) : Type 0 where
  pub keyed : IsKeyed p old → IsKeyed p new
  pub before : IsKeyed p old → (u : Tree) → Among (trees_in old) u → Among (trees_in new) u
  pub all : IsKeyed p old → (u : Tree) → In u → HasRecipe (has_operator p.formats) frame u → Among (trees_in new) u
  pub only : IsKeyed p old → (u : Tree) → Among (trees_in new) u → Among (trees_in old) u ⊎ (In u × HasRecipe (has_operator p.formats) frame u)
