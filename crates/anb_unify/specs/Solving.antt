-- What is known while equations are solved.
use Rattle.std.specs.Prelude.{◌≡◌, ℕ, ◌+◌, List, map, Option, Some, unwrap_or, slice_get}
use Rattle.std.specs.List.{range_with_len}
use Rattle.anb_term.specs.Tree.{Tree, leaf}
use Rattle.anb_intern.specs.declared.node.NodeId.{NodeId}
use Rattle.anb_unify.specs.Equations.{EquationValue}
use Rattle.anb_unify.specs.Reading.{read, Settles, Keeps}

-- these terms stand in a pool at these numbers
abbrev pub term_at : List Tree → NodeId → Option Tree
term_at ts id = slice_get ts id.0

abbrev pub AreAt : List Tree → List NodeId → List Tree → Type 0
AreAt ts ids us = map (term_at ts) ids ≡ map Some us

-- the first so many variables
abbrev pub first_variables : ℕ → ℕ → List Tree
first_variables names n = map (λ i. leaf (names + i)) (range_with_len 0 n)

abbrev pub terms_of_equations : List EquationValue → List Tree
terms_of_equations equations = map (λ (q : EquationValue). q.term) equations

-- the narrated terms can be read
pub record CanBeRead (names : ℕ) (ts : List Tree) (roots : List NodeId) (narrated : List Tree) : Type 0 where
  pub rep : Tree → Tree
  pub settles : Settles names ts roots rep
  pub put : ℕ → Tree
  pub kept : Keeps ts rep put
  pub each : (k : ℕ) (t : Tree) → slice_get narrated k ≡ Some t → put (names + k) ≡ t

-- what is read of a variable, along its narrated term
abbrev pub read_at : (Tree → Tree) → ℕ → List Tree → ℕ → Tree
read_at rep names narrated i = read rep (leaf (names + i)) (unwrap_or (slice_get narrated i) (leaf 0))
