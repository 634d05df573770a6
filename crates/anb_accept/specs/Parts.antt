-- Parts of terms by their places, and the variables that stand once.
use Rattle.std.specs.Prelude.{◌≡◌, ℕ, ◌≤◌, List, [], ◌∷◌, Bool, Option, Some, None, option_map, option_and_then, slice_get, slice_set}
use Rattle.anb_term.specs.declared.term.Op.{Op}
use Rattle.anb_term.specs.Tree.{Tree, leaf, node, trees_of, list_of}
use Rattle.anb_plays.specs.Plans.{Event}
use Rattle.anb_pattern.specs.Variables.{count_in_each}
use Rattle.anb_accept.specs.Taking.{Takes}

abbrev pub operands : Tree → List Tree
operands (leaf n) = []
operands (node o ts) = list_of ts

abbrev pub with_operands : Tree → List Tree → Tree
with_operands (leaf n) us = leaf n
with_operands (node o ts) us = node o (trees_of us)

-- a place: the number of a term from 0, then the number of an operand of it, and so on
abbrev pub part_at : List ℕ → List Tree → Option Tree
part_at [] ts = None
part_at (i ∷ []) ts = slice_get ts i
part_at (i ∷ j ∷ js) ts = option_and_then (λ t. part_at (j ∷ js) (operands t)) (slice_get ts i)

abbrev pub set_if : List Tree → ℕ → Option Tree → List Tree
set_if ts i None = ts
set_if ts i (Some t) = slice_set ts i t

-- these terms with another one at a place, and what stands around it built anew
abbrev pub with_part : List ℕ → Tree → List Tree → List Tree
with_part [] u ts = ts
with_part (i ∷ []) u ts = slice_set ts i u
with_part (i ∷ j ∷ js) u ts = set_if ts i (option_map (λ t. with_operands t (with_part (j ∷ js) u (operands t))) (slice_get ts i))

-- whatever else comes, any term may stand there
abbrev pub IsFree : (Op → Bool) → List Event → List ℕ → Type 0
IsFree has plan place = (arrivals : List Tree) (u : Tree) → Takes has plan arrivals → Takes has plan (with_part place u arrivals)

-- a variable that stands there and nowhere else
pub record IsUncheckedAt (names : ℕ) (patterns : List Tree) (place : List ℕ) : Type 0 where
  pub variable : ℕ
  pub above : names ≤ variable
  pub here : part_at place patterns ≡ Some (leaf variable)
  pub once : count_in_each variable patterns ≡ 1
