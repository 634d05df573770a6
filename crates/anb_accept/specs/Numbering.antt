-- Variables that are numbered in the order in which they first stand.
use Rattle.std.specs.Prelude.{◌≡◌, ℕ, suc, ◌+◌, ◌<◌, List, [], ◌∷◌, ◌⊎◌}
use Rattle.anb_term.specs.Tree.{Tree}
use Rattle.anb_protocol.specs.Texts.{atoms_in_each}

-- each of these numbers is below the next one, or is it, and then the next one is higher by one
abbrev pub AreInOrder : (next end : ℕ) → List ℕ → Type 0
AreInOrder next end [] = next ≡ end
AreInOrder next end (n ∷ ns) = ((n < next) × AreInOrder next end ns) ⊎ ((n ≡ next) × AreInOrder (suc next) end ns)

-- the variables are the atoms from the names on, in the order in which they first stand, with none left out
pub record AreNumbered (names : ℕ) (patterns : List Tree) : Type 0 where
  pub count : ℕ
  pub in_order : AreInOrder names (names + count) (atoms_in_each patterns)
