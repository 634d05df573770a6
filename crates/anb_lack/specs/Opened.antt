-- What comes out of terms, and what stands in them behind keys that are missing.
use Rattle.std.specs.Prelude.{List, [], ◌∷◌, take, drop, Bool, true, not, ◌&&◌, if◌then◌else◌}
use Rattle.std.specs.List.{flat_map, list_all}
use Rattle.anb_term.specs.declared.term.Op.{Op}
use Rattle.anb_term.specs.Operator.{keys, undoable}
use Rattle.anb_term.specs.Tree.{Tree, leaf, node, Trees, none, more, list_of}
use Rattle.anb_reason.specs.Decided.{composes, is_among}

-- all keys of a term with this operator are had
abbrev pub are_had : (Tree → Bool) → Op → Trees → Bool
are_had has o ts = list_all has (take (keys o) (list_of ts))

abbrev pub all_of : List (List Tree) → List Tree
all_of lists = flat_map (λ l. l) lists

abbrev mutual
  -- What comes out of a term for who has these keys, outside first: the term itself, and where it can be
  -- undone with them, what comes out of its parts.
  pub comes_out : (Tree → Bool) → Tree → List Tree
  comes_out has (leaf n) = leaf n ∷ []
  comes_out has (node o ts) = node o ts ∷ (if undoable o && are_had has o ts then all_of (drop (keys o) (come_out has ts)) else [])

  -- of each of these
  pub come_out : (Tree → Bool) → Trees → List (List Tree)
  come_out has none = []
  come_out has (more t ts) = comes_out has t ∷ come_out has ts

-- what comes out of these for who has what composes from S
abbrev pub opened : List Tree → List Tree → List Tree
opened S ts = flat_map (comes_out (composes S)) ts

-- it can be undone, and not all its keys compose
abbrev pub is_locked : List Tree → Tree → Bool
is_locked S (leaf n) = not true
is_locked S (node o ts) = undoable o && not (are_had (composes S) o ts)

abbrev pub first_lacking : List Tree → Tree → List Tree → Tree
first_lacking S t [] = t
first_lacking S t (k ∷ ks) = if composes S k then first_lacking S t ks else k

-- the first of its keys that doesn't compose
abbrev pub missing_key : List Tree → Tree → Tree
missing_key S (leaf n) = leaf n
missing_key S (node o ts) = first_lacking S (node o ts) (take (keys o) (list_of ts))

-- what comes out of its parts for who has all keys
abbrev pub inside : Tree → List Tree
inside (leaf n) = []
inside (node o ts) = all_of (drop (keys o) (come_out (λ k. true) ts))

-- a term stands inside another
abbrev pub holds : Tree → Tree → Bool
holds t u = is_among (inside t) u
