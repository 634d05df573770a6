-- The parts of a term, and which of them don't compose from other terms.
use Rattle.std.specs.Prelude.{List, [], ◌∷◌, ◌++◌, filter, Bool, not}
use Rattle.anb_term.specs.Tree.{Tree, leaf, node, Trees, none, more, tree_eqb}
use Rattle.anb_protocol.specs.Names.{distinct}
use Rattle.anb_reason.specs.Decided.{is_among, composes}

abbrev mutual
  -- a term and all that it is made of, outside first, from left to right
  pub parts : Tree → List Tree
  parts (leaf n) = leaf n ∷ []
  parts (node o ts) = node o ts ∷ parts_of_all ts

  pub parts_of_all : Trees → List Tree
  parts_of_all none = []
  parts_of_all (more t ts) = parts t ++ parts_of_all ts

-- the first is a part of the second
abbrev pub is_part : Tree → Tree → Bool
is_part u t = is_among (parts t) u

abbrev pub lacks : List Tree → Tree → Bool
lacks terms t = not (composes terms t)

-- the parts that don't compose from these terms, each where it stands first
abbrev pub lacking : List Tree → Tree → List Tree
lacking terms t = distinct tree_eqb (filter (lacks terms) (parts t))
