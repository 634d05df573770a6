-- Equations between terms over names and, above them, variables; and what solves them. Variables are numbered from 0.
use Rattle.std.specs.Prelude.{◌≡◌, ℕ, ◌+◌, ◌<◌, List, map, Some, slice_get}
use Rattle.std.specs.List.{AllByRecursion}
use Rattle.anb_term.specs.Tree.{Tree}
use Rattle.anb_unify.specs.Substitutions.{put_in, KeepsNames}

-- that a variable is a term
pub record EquationValue : Type 0 where
  pub variable : ℕ
  pub term : Tree

-- these terms in the places of the variables solve an equation
abbrev pub Solves : ℕ → (ℕ → Tree) → EquationValue → Type 0
Solves names put q = put (names + q.variable) ≡ put_in put q.term

pub record IsSolution (names : ℕ) (equations : List EquationValue) (put : ℕ → Tree) : Type 0 where
  pub keeps : KeepsNames names put
  pub solves : AllByRecursion (Solves names put) equations

-- the atoms of variables
abbrev pub atoms_of : ℕ → List ℕ → List ℕ
atoms_of names at = map (λ i. names + i) at

-- What the most general solution has at these atoms: it is a solution, and each solution is an instance of it there.
pub record IsMostGeneral (names : ℕ) (equations : List EquationValue) (atoms : List ℕ) (patterns : List Tree) : Type 0 where
  pub put : ℕ → Tree
  pub solution : IsSolution names equations put
  pub is : patterns ≡ map put atoms
  pub general : (other : ℕ → Tree) → IsSolution names equations other → map other atoms ≡ map (put_in other) patterns

-- some solution has these terms at the first variables
pub record HasSolution (names : ℕ) (narrated : List Tree) (equations : List EquationValue) : Type 0 where
  pub put : ℕ → Tree
  pub solution : IsSolution names equations put
  pub each : (k : ℕ) (t : Tree) → slice_get narrated k ≡ Some t → put (names + k) ≡ t

-- each equation is of one of so many variables
abbrev pub AreOfVariables : ℕ → List EquationValue → Type 0
AreOfVariables n equations = AllByRecursion (λ (q : EquationValue). q.variable < n) equations

-- each of these is one of so many variables
abbrev pub AreVariables : ℕ → List ℕ → Type 0
AreVariables n at = AllByRecursion (λ i. i < n) at
