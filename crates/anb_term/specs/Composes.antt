-- What composes from terms.
use Rattle.std.specs.Prelude.{◌≡◌, List, [], ◌∷◌, length, ◌⊎◌}
use Rattle.anb_term.specs.Operator.{arity}
use Rattle.anb_term.specs.Tree.{Tree, leaf, node, Trees, none, more, list_of}

-- a term is one of these
abbrev pub Among : List Tree → Tree → Type 0
Among [] t = ⊥
Among (e ∷ es) t = (e ≡ t) ⊎ Among es t

abbrev mutual
  -- the least set that holds these terms, and an operator on as many operands as it takes wherever it holds those
  pub Composes : List Tree → Tree → Type 0
  Composes es (leaf n) = Among es (leaf n)
  Composes es (node o ts) = Among es (node o ts) ⊎ ((length (list_of ts) ≡ arity o) × ComposeAll es ts)

  pub ComposeAll : List Tree → Trees → Type 0
  ComposeAll es none = Unit {0}
  ComposeAll es (more t ts) = Composes es t × ComposeAll es ts
