-- For proofs alone: one line of a conversation.
use Rattle.std.specs.Prelude.{ℕ, List, [], ◌∷◌, Bool, Option, Some, None, slice_get}
use Rattle.anb_term.specs.declared.term.Op.{Op}
use Rattle.anb_term.specs.Tree.{Tree}
use Rattle.anb_term.specs.Agree.{HasRecipe}

abbrev pub one_line : Option Tree → List Tree
one_line None = []
one_line (Some t) = t ∷ []

-- the line at a place, where there is one
abbrev pub line_at : List Tree → ℕ → List Tree
line_at lines at = one_line (slice_get lines at)

abbrev pub MakesOne : (Op → Bool) → List Tree → Option Tree → Type 0
MakesOne has having None = Unit {0}
MakesOne has having (Some t) = HasRecipe has having t

-- it can be made
abbrev pub MakesAt : (Op → Bool) → (having lines : List Tree) → ℕ → Type 0
MakesAt has having lines at = MakesOne has having (slice_get lines at)
