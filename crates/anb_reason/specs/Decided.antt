-- What composes and what is shut, as tests.
use Rattle.std.specs.Prelude.{List, length, take, drop, Bool, true, ◌&&◌, ◌||◌, ◌==◌, not}
use Rattle.std.specs.List.{list_any, list_all}
use Rattle.anb_term.specs.Operator.{arity, keys, undoable}
use Rattle.anb_term.specs.Tree.{Tree, leaf, node, Trees, none, more, list_of, tree_eqb}

abbrev pub is_among : List Tree → Tree → Bool
is_among es t = list_any (λ e. tree_eqb e t) es

abbrev mutual
  pub composes : List Tree → Tree → Bool
  composes es (leaf n) = is_among es (leaf n)
  composes es (node o ts) = is_among es (node o ts) || ((length (list_of ts) == arity o) && all_compose es ts)

  pub all_compose : List Tree → Trees → Bool
  all_compose es none = true
  all_compose es (more t ts) = composes es t && all_compose es ts

-- where the keys compose, the parts are there
abbrev pub parts_in : List Tree → Tree → Bool
parts_in S (leaf n) = true
parts_in S (node o us) = not (undoable o && list_all (composes S) (take (keys o) (list_of us))) || list_all (is_among S) (drop (keys o) (list_of us))

abbrev pub shut_test : List Tree → List Tree → Tree → Bool
shut_test frame S t = list_all (is_among S) frame && (list_all (parts_in S) S && not (composes S t))
