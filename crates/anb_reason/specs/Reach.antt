-- Why a narration is refused: an action, and what its sender can have by then.
use Rattle.std.specs.Prelude.{◌≡◌, ◌<◌, ℕ, List, [], ◌∷◌, length, AllPairs, ◌⊎◌}
use Rattle.std.specs.declared.cmp.Ordering.TheVariants.{Less}
use Rattle.std.specs.Ordering.{nat_cmp}
use Rattle.std.specs.Cmp.Lexicographic.{slice_cmp}
use Rattle.anb_term.specs.Tree.{Tree}
use Rattle.anb_term.specs.View.{tree_of}
use Rattle.anb_term.specs.Composes.{Among}
use Rattle.anb_term.specs.Agree.{HasRecipe}
use Rattle.anb_algebra.specs.ByteMeaning.{has_operator}
use Rattle.anb_protocol.specs.Protocols.{ProtocolValue}
use Rattle.anb_protocol.specs.Texts.{term_text}
use Rattle.anb_compile.specs.Unsent.{labels_of, IsUnsent}
use Rattle.anb_reason.specs.declared.reasons.Refusal.{Refusal}
use Rattle.anb_reason.specs.Shut.{Occurs, IsShut}

-- u occurs in one of these
abbrev pub OccursInOne : List Tree → Tree → Type 0
OccursInOne [] u = ⊥
OccursInOne (t ∷ ts) u = Occurs u t ⊎ OccursInOne ts u

-- each text comes before the later ones, byte by byte
abbrev pub IsBefore : ProtocolValue → Tree → Tree → Type 0
IsBefore p t u = slice_cmp nat_cmp (term_text p t) (term_text p u) ≡ Less

-- the subterms of the labels' terms that some recipe gives, each once, in the byte order of their canonical texts
pub record IsReach (p : ProtocolValue) (frame S : List Tree) : Type 0 where
  pub held : (u : Tree) → Among S u → OccursInOne frame u × HasRecipe (has_operator p.formats) frame u
  pub all : (u : Tree) → OccursInOne frame u → HasRecipe (has_operator p.formats) frame u → Among S u
  pub order : AllPairs (IsBefore p) S

-- The role sends this action's message, which no recipe over its labels has, and no smaller action is so. The terms are the
-- reach of the labels, which is shut for the message.
pub record IsReason (p : ProtocolValue) (r : Refusal) : Type 0 where
  pub unsent : IsUnsent p r.role r.action
  pub first : (sender other : ℕ) → sender < length p.roles → other < r.action → IsUnsent p sender other → ⊥
  pub role : r.role < length p.roles
  pub message : unsent.message ≡ tree_of r.term
  pub reach : IsReach p (labels_of unsent.before) r.terms
  pub shut : IsShut (labels_of unsent.before) r.terms (tree_of r.term)
