-- How names stand in a message: as keys, in clear, and where whoever has all keys can take them out.
use Rattle.std.specs.Prelude.{ℕ, ◌+◌, List, [], ◌∷◌, ◌++◌, Bool, true, false, nat_le, if◌then◌else◌}
use Rattle.anb_term.specs.declared.term.Op.{Op}
use Rattle.anb_term.specs.declared.term.Op.TheVariants.{Hash, Mac, Seal, Wrap, Format}
use Rattle.anb_term.specs.Operator.{keys, undoable}
use Rattle.anb_term.specs.Tree.{Tree, leaf, node, Trees, none, more}
use Rattle.anb_notes.specs.declared.standing.Standing.{Standing}
use Rattle.anb_notes.specs.declared.standing.Standing.TheVariants.{AsKey, InClear, Inside}

-- its first operand is a key; the second one of a wrap, its context, is none
abbrev pub has_key : Op → Bool
has_key Hash = false
has_key Mac = true
has_key Seal = true
has_key Wrap = true
has_key (Format i a) = false

abbrev pub is_format : Op → Bool
is_format Hash = false
is_format Mac = false
is_format Seal = false
is_format Wrap = false
is_format (Format i a) = true

-- the first of these, where it is a name
abbrev pub first_name : Trees → List ℕ
first_name none = []
first_name (more (leaf n) ts) = n ∷ []
first_name (more (node o us) ts) = []

abbrev mutual
  -- the names that are keys of a mac, a seal or a wrap, wherever it stands in a term
  pub as_key : Tree → List ℕ
  as_key (leaf n) = []
  as_key (node o ts) = (if has_key o then first_name ts else []) ++ as_key_each ts

  pub as_key_each : Trees → List ℕ
  as_key_each none = []
  as_key_each (more t ts) = as_key t ++ as_key_each ts

abbrev mutual
  -- the names that everybody reads in a message: it is one, or has it as a field, or in a field
  pub in_clear : Tree → List ℕ
  in_clear (leaf n) = n ∷ []
  in_clear (node o ts) = if is_format o then in_clear_each ts else []

  pub in_clear_each : Trees → List ℕ
  in_clear_each none = []
  in_clear_each (more t ts) = in_clear t ++ in_clear_each ts

abbrev mutual
  -- the names that somebody with all keys takes out of a message: fields, and what is sealed or wrapped
  pub inside : Tree → List ℕ
  inside (leaf n) = n ∷ []
  inside (node o ts) = if undoable o then inside_from (keys o) 0 ts else []

  -- in the operands from a place on
  pub inside_from : (first place : ℕ) → Trees → List ℕ
  inside_from first place none = []
  inside_from first place (more t ts) = (if nat_le first place then inside t else []) ++ inside_from first (place + 1) ts

abbrev pub names_in : Standing → Tree → List ℕ
names_in AsKey = as_key
names_in InClear = in_clear
names_in Inside = inside
