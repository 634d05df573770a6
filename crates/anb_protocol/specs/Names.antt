-- The names of a narration: which it declares, and how it uses them.
use Rattle.std.specs.Prelude.{ℕ, List, [], ◌∷◌, ◌++◌, length, map, Bool, if◌then◌else◌}
use Rattle.std.specs.List.{flat_map, list_any}
use Rattle.std.specs.Str.{bytes_eq}
use Rattle.anb_syntax.specs.Grammar.{Tree, atom, apply, hash, mac, seal, wrap, Trees, none, more, list_of, TypeItem, FormatItem, KnowItem, ActionItem, Narration}
use Rattle.anb_protocol.specs.declared.parts.Atom.{Atom}
use Rattle.anb_protocol.specs.Choices.{each_after}

-- each thing once, where it stands first
abbrev pub first_new : {X : Type 0} → (X → X → Bool) → List X → X → List X
first_new same before x = if list_any (λ y. same y x) before then [] else x ∷ []

abbrev pub distinct : {X : Type 0} → (X → X → Bool) → List X → List X
distinct same xs = each_after (first_new same) [] xs

-- how a name is used: as a role, as a term, or as a format with so many arguments
pub data Use : Type 0 where
  as_role : List ℕ → Use
  as_atom : List ℕ → Use
  as_format : List ℕ → ℕ → Use

abbrev pub used_name : Use → List ℕ
used_name (as_role x) = x
used_name (as_atom x) = x
used_name (as_format x count) = x

-- the uses in a term, from left to right
abbrev mutual
  pub tree_uses : Tree → List Use
  tree_uses (atom x) = as_atom x ∷ []
  tree_uses (apply x ts) = as_format x (length (list_of ts)) ∷ trees_uses ts
  tree_uses (hash t) = tree_uses t
  tree_uses (mac t u) = tree_uses t ++ tree_uses u
  tree_uses (seal t u) = tree_uses t ++ tree_uses u
  tree_uses (wrap t u v) = tree_uses t ++ tree_uses u ++ tree_uses v

  pub trees_uses : Trees → List Use
  trees_uses none = []
  trees_uses (more t ts) = tree_uses t ++ trees_uses ts

abbrev pub know_uses : KnowItem → List Use
know_uses k = as_role k.role ∷ trees_uses k.terms

abbrev pub action_uses : ActionItem → List Use
action_uses a = as_role a.from ∷ as_role a.to ∷ tree_uses a.message

-- all uses in text order
abbrev pub uses : Narration → List Use
uses n = flat_map know_uses n.knows ++ flat_map action_uses n.actions

-- the names of the type items, each with its sort
abbrev pub item_atoms : TypeItem → List Atom
item_atoms i = map (λ x. record { name = x; sort = i.sort }) i.names

abbrev pub atoms : Narration → List Atom
atoms n = flat_map item_atoms n.types

-- the declared names in text order: those of the type items, and those of the formats
abbrev pub declared_names : Narration → List (List ℕ)
declared_names n = flat_map (λ (i : TypeItem). i.names) n.types ++ map (λ (f : FormatItem). f.title) n.formats

-- the names that head lines of knowledge
abbrev pub line_names : Narration → List (List ℕ)
line_names n = map (λ (k : KnowItem). k.role) n.knows

-- every name in text order
abbrev pub all_names : Narration → List (List ℕ)
all_names n = n.title ∷ declared_names n ++ map used_name (uses n)

abbrev pub action_roles : ActionItem → List (List ℕ)
action_roles a = a.from ∷ a.to ∷ []

-- The roles: the names that head a line of knowledge or stand at an end of an action, in the order in
-- which they first do, lines of knowledge first.
abbrev pub roles : Narration → List (List ℕ)
roles n = distinct bytes_eq (line_names n ++ flat_map action_roles n.actions)

-- the terms of a narration: what is known, and the messages
abbrev pub terms : Narration → List Tree
terms n = flat_map (λ (k : KnowItem). list_of k.terms) n.knows ++ map (λ (a : ActionItem). a.message) n.actions
