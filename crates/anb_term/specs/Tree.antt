-- A term as a mathematical tree, and what is said of it.
use Rattle.std.specs.Prelude.{◌≡◌, ℕ, suc, ◌+◌, List, [], ◌∷◌, length, Bool, true, false, ◌&&◌, ◌==◌, IsTrue}
use Rattle.anb_term.specs.declared.term.Op.{Op}
use Rattle.anb_term.specs.Operator.{arity, op_eqb}

mutual
  pub data Tree : Type 0 where
    leaf : ℕ → Tree
    node : Op → Trees → Tree

  pub data Trees : Type 0 where
    none : Trees
    more : Tree → Trees → Trees

abbrev pub trees_of : List Tree → Trees
trees_of [] = none
trees_of (t ∷ ts) = more t (trees_of ts)

abbrev pub list_of : Trees → List Tree
list_of none = []
list_of (more t ts) = t ∷ list_of ts

abbrev mutual
  -- how many nodes it has
  pub tree_size : Tree → ℕ
  tree_size (leaf n) = 1
  tree_size (node o ts) = suc (trees_size ts)

  pub trees_size : Trees → ℕ
  trees_size none = 0
  trees_size (more t ts) = tree_size t + trees_size ts

-- how many nodes these have together
abbrev pub nodes : List Tree → ℕ
nodes [] = 0
nodes (t ∷ ts) = tree_size t + nodes ts

abbrev mutual
  -- whether both are one tree
  pub tree_eqb : Tree → Tree → Bool
  tree_eqb (leaf m) (leaf n) = m == n
  tree_eqb (leaf m) (node p us) = false
  tree_eqb (node o ts) (leaf n) = false
  tree_eqb (node o ts) (node p us) = op_eqb o p && trees_eqb ts us

  pub trees_eqb : Trees → Trees → Bool
  trees_eqb none none = true
  trees_eqb none (more u us) = false
  trees_eqb (more t ts) none = false
  trees_eqb (more t ts) (more u us) = tree_eqb t u && trees_eqb ts us

abbrev mutual
  -- a term over these operators, with as many operands as each takes
  pub IsFormed : (Op → Bool) → Tree → Type 0
  IsFormed has (leaf n) = Unit {0}
  IsFormed has (node o ts) = IsTrue (has o) × (length (list_of ts) ≡ arity o) × AreFormed has ts

  pub AreFormed : (Op → Bool) → Trees → Type 0
  AreFormed has none = Unit {0}
  AreFormed has (more t ts) = IsFormed has t × AreFormed has ts

abbrev mutual
  -- an atom that does not occur in a term
  pub Avoids : ℕ → Tree → Type 0
  Avoids a (leaf n) = n ≡ a → ⊥
  Avoids a (node o ts) = AvoidsAll a ts

  pub AvoidsAll : ℕ → Trees → Type 0
  AvoidsAll a none = Unit {0}
  AvoidsAll a (more t ts) = Avoids a t × AvoidsAll a ts

-- and in none of these
abbrev pub AvoidsEach : ℕ → List Tree → Type 0
AvoidsEach a [] = Unit {0}
AvoidsEach a (t ∷ ts) = Avoids a t × AvoidsEach a ts
