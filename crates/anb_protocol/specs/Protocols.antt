-- The protocol that a narration tells: its names by numbers.
use Rattle.std.specs.Prelude.{ℕ, List, [], ◌∷◌, map, unwrap_or, slice_get, if◌then◌else◌, Option}
use Rattle.std.specs.Option.{option_map_or}
use Rattle.std.specs.Str.{bytes_eq}
use Rattle.anb_base.specs.declared.content.Suite.{Suite}
use Rattle.anb_format.specs.Formats.{FormatValue, field_count}
use Rattle.anb_term.specs.declared.term.Op.{Op}
use Rattle.anb_term.specs.declared.term.Op.TheVariants.{Hash, Mac, Seal, Wrap, Format}
use Rattle.anb_term.specs.Tree as term
use Rattle.anb_index.specs.Places.{place_of}
use Rattle.anb_syntax.specs.Grammar.{Tree, atom, apply, hash, mac, seal, wrap, Trees, none, more, FormatItem, KnowItem, ActionItem, Narration}
use Rattle.anb_protocol.specs.declared.parts.Atom.{Atom}
use Rattle.std.specs.List.{position_from}
use Rattle.anb_protocol.specs.Names.{atoms, roles}

-- a message from one role to another, by their numbers
pub record ActionValue : Type 0 where
  pub from : ℕ
  pub to : ℕ
  pub message : term.Tree

-- An atom's number is its place among the atoms, a format's index its place among the formats, and a
-- role's number its place among the roles. What a role knows stands at its place.
pub record ProtocolValue : Type 0 where
  pub name : List ℕ
  pub suite : Suite
  pub formats : List FormatValue
  pub roles : List (List ℕ)
  pub atoms : List Atom
  pub knows : List (List term.Tree)
  pub actions : List ActionValue

-- The number of an atom, the operator of a format and the number of a role by their names. In a
-- narration that is well formed each of these names is declared.
abbrev pub atom_number : List Atom → List ℕ → ℕ
atom_number all x = unwrap_or (position_from (λ (a : Atom). bytes_eq a.name x) 0 all) 0

abbrev pub format_number : List FormatValue → List ℕ → ℕ
format_number formats x = unwrap_or (position_from (λ (f : FormatValue). bytes_eq f.name x) 0 formats) 0

abbrev pub fields_at : List FormatValue → ℕ → ℕ
fields_at formats i = option_map_or (λ (f : FormatValue). field_count f.pieces) (slice_get formats i) 0

abbrev pub format_op : List FormatValue → List ℕ → Op
format_op formats x = Format (format_number formats x) (fields_at formats (format_number formats x))

abbrev pub role_number : List (List ℕ) → List ℕ → ℕ
role_number names x = unwrap_or (position_from (λ y. bytes_eq y x) 0 names) 0

-- a term by numbers
module _ (all : List Atom) (formats : List FormatValue) where
  abbrev mutual
    pub resolved : Tree → term.Tree
    resolved (atom x) = term.leaf (atom_number all x)
    resolved (apply x ts) = term.node (format_op formats x) (resolved_all ts)
    resolved (hash t) = term.node Hash (term.more (resolved t) term.none)
    resolved (mac t u) = term.node Mac (term.more (resolved t) (term.more (resolved u) term.none))
    resolved (seal t u) = term.node Seal (term.more (resolved t) (term.more (resolved u) term.none))
    resolved (wrap t u v) = term.node Wrap (term.more (resolved t) (term.more (resolved u) (term.more (resolved v) term.none)))

    pub resolved_all : Trees → term.Trees
    resolved_all none = term.none
    resolved_all (more t ts) = term.more (resolved t) (resolved_all ts)

abbrev pub format_value : FormatItem → FormatValue
format_value f = record { name = f.title; pieces = f.pieces }

abbrev pub formats_of : Narration → List FormatValue
formats_of n = map format_value n.formats

-- the terms of the first line of knowledge of this role; a role without a line knows nothing
abbrev pub line_of : List KnowItem → List ℕ → Trees
line_of [] role = none
line_of (k ∷ ks) role = if bytes_eq k.role role then k.terms else line_of ks role

abbrev pub action_of : List Atom → List FormatValue → List (List ℕ) → ActionItem → ActionValue
action_of all formats names a = record { from = role_number names a.from; to = role_number names a.to; message = resolved all formats a.message }

unfoldable pub protocol_of : Narration → ProtocolValue
protocol_of n = record {
  name = n.title;
  suite = n.suite;
  formats = formats_of n;
  roles = roles n;
  atoms = atoms n;
  knows = map (λ role. term.list_of (resolved_all (atoms n) (formats_of n) (line_of n.knows role))) (roles n);
  actions = map (action_of (atoms n) (formats_of n) (roles n)) n.actions;
}

-- the number of the role with this name
abbrev pub role_named : ProtocolValue → List ℕ → Option ℕ
role_named p name = place_of p.roles name

-- the name of the role with this number
abbrev pub role_name : ProtocolValue → ℕ → List ℕ
role_name p role = option_map_or (λ name. name) (slice_get p.roles role) []
