-- Patterns as they are read off what stands for each class.
use Rattle.std.specs.Prelude.{◌≡◌, ℕ, ◌+◌, List, map, false, Some, slice_get}
use Rattle.std.specs.List.{AllByRecursion}
use Rattle.anb_term.specs.Tree.{Tree, leaf, node, Trees, none, more}
use Rattle.anb_intern.specs.declared.node.NodeId.{NodeId}
use Rattle.anb_unify.specs.Substitutions.{put_in}
use Rattle.anb_unify.specs.Classes.{is_variable, IsRoot, SameAt, Respects, AreLike, AreClosed, Stands}
use Rattle.anb_unify.specs.Equations.{EquationValue, IsSolution}

-- an atom, or the operator on what is read of the operands
abbrev pub root_with : Tree → (Trees → Trees) → Tree
root_with (leaf a) read = leaf a
root_with (node o us) read = node o (read us)

abbrev pub root_at : ℕ → Tree → Tree
root_at n (leaf a) = leaf a
root_at n (node o us) = leaf n

module _ (rep : Tree → Tree) where
  abbrev mutual
    -- the most general term of a class, along its narrated term
    pub read : Tree → Tree → Tree
    read t (leaf n) = root_at n (rep t)
    read t (node o hs) = root_with (rep t) (λ us. read_all us hs)

    pub read_all : Trees → Trees → Trees
    read_all us none = none
    read_all none (more h hs) = none
    read_all (more u us) (more h hs) = more (read u h) (read_all us hs)

-- what stands for the class of each term of a pool
pub record Settles (names : ℕ) (ts : List Tree) (roots : List NodeId) (rep : Tree → Tree) : Type 0 where
  pub at : (i : ℕ) (t : Tree) → slice_get ts i ≡ Some t → (r : NodeId) × (slice_get roots i ≡ Some r) × (slice_get ts r.0 ≡ Some (rep t))
  pub like : (i : ℕ) (t : Tree) → slice_get ts i ≡ Some t → is_variable names t ≡ false → AreLike rep t (rep t)

-- terms in the places of variables give each term of the pool what they give for its class
abbrev pub Keeps : List Tree → (Tree → Tree) → (ℕ → Tree) → Type 0
Keeps ts rep put = (i : ℕ) (t : Tree) → slice_get ts i ≡ Some t → put_in put t ≡ put_in put (rep t)

-- a term of the pool with its narrated term
pub record IsReadable (names : ℕ) (ts : List Tree) (roots : List NodeId) (id : ℕ) (narrated : Tree) : Type 0 where
  pub rep : Tree → Tree
  pub settles : Settles names ts roots rep
  pub put : ℕ → Tree
  pub kept : Keeps ts rep put
  pub is : Stands ts put id narrated

pub record AreReadable (names : ℕ) (ts : List Tree) (roots : List NodeId) (us narrated : List Tree) : Type 0 where
  pub rep : Tree → Tree
  pub settles : Settles names ts roots rep
  pub put : ℕ → Tree
  pub kept : Keeps ts rep put
  pub are : map (put_in put) us ≡ narrated

-- the roots of the terms of a pool, in order
pub record AreRoots (ts : List Tree) (parents roots : List NodeId) : Type 0 where
  pub each : (i : ℕ) (r : NodeId) → slice_get roots i ≡ Some r → IsRoot parents r
  pub same : (i : ℕ) (r : NodeId) → slice_get roots i ≡ Some r → (f : Tree → Tree) → Respects ts f parents → SameAt ts f i r.0

-- each equation made its two sides one, and nothing else was made one
pub record AreSolved (names : ℕ) (ts : List Tree) (equations : List EquationValue) (parents : List NodeId) : Type 0 where
  pub same : (f : Tree → Tree) → Respects ts f parents → AllByRecursion (λ (q : EquationValue). f (leaf (names + q.variable)) ≡ f q.term) equations
  pub closed : (f : Tree → Tree) → Respects ts f parents → AreClosed names ts f parents
  pub general : (put : ℕ → Tree) → IsSolution names equations put → Respects ts (put_in put) parents
