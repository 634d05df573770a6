-- Notes on a protocol as a whole.
use Rattle.std.specs.Prelude.{ℕ, ◌+◌, ◌==◌, ◌||◌, List, [], ◌∷◌, ◌++◌, Bool, false, length, codes, decimal, slice_get, if◌then◌else◌}
use Rattle.std.specs.List.{flat_map, list_any, range_with_len}
use Rattle.std.specs.Option.{option_map_or}
use Rattle.std.specs.Str.{bytes_eq}
use Rattle.anb_format.specs.Formats.{FormatValue}
use Rattle.anb_term.specs.declared.term.Op.{Op}
use Rattle.anb_term.specs.declared.term.Op.TheVariants.{Hash, Mac, Seal, Wrap, Format}
use Rattle.anb_term.specs.Tree.{Tree, leaf, node, Trees, none, more, tree_eqb}
use Rattle.anb_code.specs.Spelling.{name_at}
use Rattle.anb_explain.specs.Explained.{line}
use Rattle.anb_protocol.specs.Plans.{plan_of, term_in}
use Rattle.anb_protocol.specs.Protocols.{ActionValue, ProtocolValue, role_name}
use Rattle.anb_protocol.specs.Texts.{atom_name, atoms_in}
use Rattle.anb_report.specs.Looking.{is_among}

abbrev pub unused : Bool → (kind name : List ℕ) → List ℕ
unused there kind name = if there then [] else line (codes "note: nothing uses " ++ (kind ++ name))

-- ---- names

-- the atoms in what a role knows, makes, sends and receives
abbrev pub plan_atoms : ProtocolValue → ℕ → List ℕ
plan_atoms p role = flat_map (λ e. atoms_in (term_in e)) (plan_of p role)

abbrev pub used_atoms : ProtocolValue → List ℕ
used_atoms p = flat_map (plan_atoms p) (range_with_len 0 (length p.roles))

abbrev pub is_role : ProtocolValue → List ℕ → Bool
is_role p name = list_any (λ y. bytes_eq y name) p.roles

-- no term has it, and no role
abbrev pub unused_name : ProtocolValue → List ℕ → ℕ → List ℕ
unused_name p used i = unused (is_among used i || is_role p (atom_name p i)) (codes "the name ") (atom_name p i)

abbrev pub unused_names : ProtocolValue → List ℕ
unused_names p = flat_map (unused_name p (used_atoms p)) (range_with_len 0 (length p.atoms))

-- ---- formats

abbrev pub format_of : Op → List ℕ
format_of (Format i arity) = i ∷ []
format_of Hash = []
format_of Mac = []
format_of Seal = []
format_of Wrap = []

abbrev mutual
  pub formats_in : Tree → List ℕ
  formats_in (leaf a) = []
  formats_in (node o ts) = format_of o ++ formats_in_all ts

  pub formats_in_all : Trees → List ℕ
  formats_in_all none = []
  formats_in_all (more t ts) = formats_in t ++ formats_in_all ts

-- those in what a role knows, sends and receives
abbrev pub plan_formats : ProtocolValue → ℕ → List ℕ
plan_formats p role = flat_map (λ e. formats_in (term_in e)) (plan_of p role)

abbrev pub used_formats : ProtocolValue → List ℕ
used_formats p = flat_map (plan_formats p) (range_with_len 0 (length p.roles))

abbrev pub unused_format : List FormatValue → List ℕ → ℕ → List ℕ
unused_format formats used i = unused (is_among used i) (codes "the format ") (name_at formats i)

abbrev pub unused_formats : ProtocolValue → List ℕ
unused_formats p = flat_map (unused_format p.formats (used_formats p)) (range_with_len 0 (length p.formats))

-- ---- roles

abbrev pub is_to : ℕ → ActionValue → Bool
is_to role a = a.to == role

abbrev pub is_from : ℕ → ActionValue → Bool
is_from role a = a.from == role

abbrev pub never : Bool → List ℕ → List ℕ → List ℕ
never there name what = if there then [] else line (codes "note: role " ++ (name ++ what))

abbrev pub silent_role : ProtocolValue → ℕ → List ℕ
silent_role p role =
    never (list_any (is_to role) p.actions) (role_name p role) (codes " never receives")
    ++ never (list_any (is_from role) p.actions) (role_name p role) (codes " never sends")

abbrev pub silent_roles : ProtocolValue → List ℕ
silent_roles p = flat_map (silent_role p) (range_with_len 0 (length p.roles))

-- ---- actions

abbrev pub has_message : List ActionValue → ℕ → Tree → Bool
has_message actions i t = option_map_or (λ (a : ActionValue). tree_eqb t a.message) (slice_get actions i) false

-- the action at this place has the message of the next one
abbrev pub is_repeated : List ActionValue → ℕ → Bool
is_repeated actions i = option_map_or (λ (a : ActionValue). has_message actions (i + 1) a.message) (slice_get actions i) false

abbrev pub repeated : List ActionValue → ℕ → List ℕ
repeated actions i =
    if is_repeated actions i then line (codes "note: actions " ++ (decimal (i + 1) ++ (codes " and " ++ (decimal (i + 2) ++ codes " have the same message")))) else []

abbrev pub repeats : ProtocolValue → List ℕ
repeats p = flat_map (repeated p.actions) (range_with_len 0 (length p.actions))

abbrev pub remarks : ProtocolValue → List ℕ
remarks p = unused_names p ++ (unused_formats p ++ (silent_roles p ++ repeats p))
