-- Terms in the places of atoms.
use Rattle.std.specs.Prelude.{◌≡◌, ℕ, ◌<◌}
use Rattle.anb_term.specs.Tree.{Tree, leaf, node, Trees, none, more}
use Rattle.anb_term.specs.FreeAlgebra.{terms}
use Rattle.anb_plays.specs.Honest.{honest}

-- a term with terms put in the places of its atoms
abbrev pub put_in : (ℕ → Tree) → Tree → Tree
put_in put t = honest terms put t

-- the names, which are the atoms below this number, stay; those from it on are variables
abbrev pub KeepsNames : ℕ → (ℕ → Tree) → Type 0
KeepsNames names put = (n : ℕ) → n < names → put n ≡ leaf n

abbrev mutual
  -- its atoms are names
  pub IsNamed : ℕ → Tree → Type 0
  IsNamed names (leaf n) = n < names
  IsNamed names (node o ts) = AreNamed names ts

  pub AreNamed : ℕ → Trees → Type 0
  AreNamed names none = Unit {0}
  AreNamed names (more t ts) = IsNamed names t × AreNamed names ts
