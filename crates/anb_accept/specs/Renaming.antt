-- Terms whose variables got numbers in the order in which they first stand.
use Rattle.std.specs.Prelude.{◌≡◌, ℕ, ◌+◌, ◌<◌, ◌≤◌, List, length, ◌⊎◌, Some, slice_get}
use Rattle.anb_term.specs.Tree.{Tree, leaf, node, Trees, none, more}
use Rattle.anb_protocol.specs.Texts.{atoms_in, atoms_in_all}
use Rattle.anb_accept.specs.Numbering.{AreInOrder}
use Rattle.anb_unify.specs.Growing.{HasGrown}

module _ (names : ℕ) (pool : List Tree) where
  -- a name, or the number of a variable in a pool
  abbrev pub IsNumber : ℕ → ℕ → Type 0
  IsNumber n m = ((n < names) × (m ≡ n)) ⊎ ((names ≤ n) × (i : ℕ) × (slice_get pool i ≡ Some (leaf n)) × (m ≡ names + i))

  abbrev mutual
    -- a term with these numbers in the places of its variables
    pub IsRenamed : Tree → Tree → Type 0
    IsRenamed (leaf n) (leaf m) = IsNumber n m
    IsRenamed (leaf n) (node q us) = ⊥
    IsRenamed (node o ts) (leaf m) = ⊥
    IsRenamed (node o ts) (node q us) = (o ≡ q) × AreRenamed ts us

    pub AreRenamed : Trees → Trees → Type 0
    AreRenamed none none = Unit {0}
    AreRenamed none (more u us) = ⊥
    AreRenamed (more t ts) none = ⊥
    AreRenamed (more t ts) (more u us) = IsRenamed t u × AreRenamed ts us

-- a term got its numbers, while the pool of variables grew
pub record GotNumbers (names : ℕ) (old new : List Tree) (t u : Tree) : Type 0 where
  pub grown : HasGrown old new
  pub renamed : IsRenamed names new t u
  pub in_order : AreInOrder (names + length old) (names + length new) (atoms_in u)

pub record AllGotNumbers (names : ℕ) (old new : List Tree) (ts us : Trees) : Type 0 where
  pub grown : HasGrown old new
  pub renamed : AreRenamed names new ts us
  pub in_order : AreInOrder (names + length old) (names + length new) (atoms_in_all us)
