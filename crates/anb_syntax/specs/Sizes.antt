-- How many bytes the parts of a narration take at least in a text, where each name, each piece and each
-- operator takes one or more.
use Rattle.std.specs.Prelude.{ℕ, ◌+◌, List, length}
use Rattle.std.specs.List.{sum_by}
use Rattle.anb_syntax.specs.Grammar.{Tree, atom, apply, hash, mac, seal, wrap, Trees, none, more, TypeItem, FormatItem, KnowItem, ActionItem, Narration}

abbrev mutual
  pub tree_size : Tree → ℕ
  tree_size (atom n) = length n
  tree_size (apply n ts) = length n + trees_size ts
  tree_size (hash t) = 1 + tree_size t
  tree_size (mac t u) = 1 + tree_size t + tree_size u
  tree_size (seal t u) = 1 + tree_size t + tree_size u
  tree_size (wrap t u v) = 1 + tree_size t + tree_size u + tree_size v

  pub trees_size : Trees → ℕ
  trees_size none = 0
  trees_size (more t ts) = tree_size t + trees_size ts

-- a name, and the sign behind it
abbrev pub name_size : List ℕ → ℕ
name_size n = 1 + length n

abbrev pub type_size : TypeItem → ℕ
type_size i = sum_by name_size i.names

abbrev pub format_size : FormatItem → ℕ
format_size i = 1 + length i.title + length i.pieces

abbrev pub know_size : KnowItem → ℕ
know_size i = 1 + length i.role + trees_size i.terms

abbrev pub action_size : ActionItem → ℕ
action_size a = 1 + length a.from + length a.to + tree_size a.message

abbrev pub size : Narration → ℕ
size n = length n.title + sum_by type_size n.types + sum_by format_size n.formats + sum_by know_size n.knows + sum_by action_size n.actions
