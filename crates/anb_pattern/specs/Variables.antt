-- Variables of patterns: atoms above the names, numbered in the order in which they first stand.
use Rattle.std.specs.Prelude.{ℕ, ◌+◌, ◌==◌, List, [], ◌∷◌, ◌++◌, Bool, not, if◌then◌else◌}
use Rattle.anb_term.specs.Tree.{Tree, leaf, node, Trees, none, more, trees_of}

-- how often an atom stands in a term, in the place of a key or in another
abbrev mutual
  pub count_in : ℕ → Tree → ℕ
  count_in a (leaf n) = if n == a then 1 else 0
  count_in a (node o ts) = count_in_all a ts

  pub count_in_all : ℕ → Trees → ℕ
  count_in_all a none = 0
  count_in_all a (more t ts) = count_in a t + count_in_all a ts

-- and in several
abbrev pub count_in_each : ℕ → List Tree → ℕ
count_in_each a [] = 0
count_in_each a (t ∷ ts) = count_in a t + count_in_each a ts

abbrev pub stands_once : List Tree → ℕ → Bool
stands_once patterns v = count_in_each v patterns == 1

abbrev pub stands_again : List Tree → ℕ → Bool
stands_again patterns v = not (stands_once patterns v)

-- ---- what variables stand for

-- an atom of a pattern, and what a term has in its place
pub record Place : Type 0 where
  pub atom : ℕ
  pub term : Tree

abbrev mutual
  -- the atoms of a pattern from left to right, each with what the narrated term has there
  pub places : Tree → Tree → List Place
  places (leaf n) t = record { atom = n; term = t } ∷ []
  places (node o ps) (leaf n) = []
  places (node o ps) (node q ts) = places_all ps ts

  pub places_all : Trees → Trees → List Place
  places_all none ts = []
  places_all (more p ps) none = []
  places_all (more p ps) (more t ts) = places p t ++ places_all ps ts

abbrev pub places_each : List Tree → List Tree → List Place
places_each patterns narrated = places_all (trees_of patterns) (trees_of narrated)

-- what stands at the first place of each variable, where they come in order from this one on
abbrev pub stand_for : ℕ → List Place → List Tree
stand_for next [] = []
stand_for next (x ∷ xs) = if x.atom == next then x.term ∷ stand_for (next + 1) xs else stand_for next xs

-- those of these terms, which the variables from this one on stand for, whose variable is of a kind
abbrev pub picked_from : (ℕ → Bool) → ℕ → List Tree → List Tree
picked_from test v [] = []
picked_from test v (t ∷ ts) = (if test v then t ∷ [] else []) ++ picked_from test (v + 1) ts

module _ (names : ℕ) (patterns narrated : List Tree) where
  -- what the variables stand for, in order
  abbrev pub meanings : List Tree
  meanings = stand_for names (places_each patterns narrated)

  -- what those stand for that stand once: any term may come there, whatever else comes
  abbrev pub unchecked : List Tree
  unchecked = picked_from (stands_once patterns) names meanings

  -- and the others: such a term is compared with other arrivals alone, or is a key of one
  abbrev pub resting : List Tree
  resting = picked_from (stands_again patterns) names meanings
