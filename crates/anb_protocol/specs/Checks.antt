-- When a narration is well formed: the checks in order. Each asks for the first thing in text order
-- that is wrong, knowledge before actions, and the first check that finds one decides.
use Rattle.std.specs.Prelude.{◌≡◌, ℕ, ◌+◌, ◌==◌, ◌&&◌, not, nat_lt, List, [], ◌∷◌, ◌++◌, length, Bool, true, false, Option, Some, None, nat_eq, if◌then◌else◌}
use Rattle.std.specs.Option.{option_map, option_or}
use Rattle.std.specs.List.{list_any, sum_by, zip, starts_with}
use Rattle.std.specs.Str.{bytes_eq}
use Rattle.anb_index.specs.Places.{among}
use Rattle.anb_format.specs.declared.pieces.FieldKind.TheVariants.{Rest}
use Rattle.anb_format.specs.declared.pieces.FormatNo.{FormatNo}
use Rattle.anb_format.specs.declared.pieces.FormatNo.TheVariants.{NoHead, RestNotLast}
use Rattle.anb_format.specs.declared.pieces.Piece.{Piece}
use Rattle.anb_format.specs.declared.pieces.Piece.TheVariants.{Field}
use Rattle.anb_format.specs.Formats.{FormatValue, field_count, head}
use Rattle.anb_term.specs.Tree as term
use Rattle.anb_syntax.specs.declared.narration.Sort.{Sort}
use Rattle.anb_syntax.specs.declared.narration.Sort.TheVariants.{Agent, Number, Key}
use Rattle.anb_syntax.specs.Grammar.{Tree, atom, apply, hash, mac, seal, wrap, Trees, none, more, FormatItem, Narration}
use Rattle.anb_protocol.specs.declared.parts.Atom.{Atom}
use Rattle.anb_protocol.specs.declared.refusals.Kind.{Kind}
use Rattle.anb_protocol.specs.declared.refusals.Kind.TheVariants.{Name, Formats, Fields, Roles, Actions, TermNodes, AllNodes}
use Rattle.anb_protocol.specs.declared.refusals.Item.TheVariants.{Know, Action}
use Rattle.anb_protocol.specs.declared.refusals.ResolveNo.{ResolveNo}
use Rattle.anb_protocol.specs.declared.refusals.ResolveNo.TheVariants.{Limit, Twice, Unknown, WrongSort, WrongCount, FormatShape, Overlap, SelfSend, KnowledgeTwice, Wide}
use Rattle.anb_protocol.specs.Choices.{refuse_if, first, first_after}
use Rattle.anb_protocol.specs.Names.{Use, as_role, as_atom, as_format, used_name, atoms, all_names, declared_names, line_names, uses, roles, terms}
use Rattle.anb_protocol.specs.Protocols.{ActionValue, ProtocolValue, formats_of, protocol_of}
use Rattle.anb_protocol.specs.Texts.{term_text}
use Rattle.anb_protocol.specs.Widths.{fits_width, all_fit_width}

-- ---- limits

abbrev pub above : ℕ → Kind → ℕ → Option ResolveNo
above most kind count = refuse_if (nat_lt most count) (Limit kind count)

abbrev mutual
  -- how many nodes a term has
  pub tree_nodes : Tree → ℕ
  tree_nodes (atom x) = 1
  tree_nodes (apply x ts) = 1 + trees_nodes ts
  tree_nodes (hash t) = 1 + tree_nodes t
  tree_nodes (mac t u) = 1 + tree_nodes t + tree_nodes u
  tree_nodes (seal t u) = 1 + tree_nodes t + tree_nodes u
  tree_nodes (wrap t u v) = 1 + tree_nodes t + tree_nodes u + tree_nodes v

  pub trees_nodes : Trees → ℕ
  trees_nodes none = 0
  trees_nodes (more t ts) = tree_nodes t + trees_nodes ts

abbrev pub name_limit : Narration → Option ResolveNo
name_limit n = first (λ (x : List ℕ). above 64 Name (length x)) (all_names n)

abbrev pub format_limit : Narration → Option ResolveNo
format_limit n = above 64 Formats (length n.formats)

abbrev pub field_limit : Narration → Option ResolveNo
field_limit n = first (λ (f : FormatItem). above 32 Fields (field_count f.pieces)) n.formats

abbrev pub role_limit : Narration → Option ResolveNo
role_limit n = above 32 Roles (length (roles n))

abbrev pub action_limit : Narration → Option ResolveNo
action_limit n = above 256 Actions (length n.actions)

abbrev pub term_limit : Narration → Option ResolveNo
term_limit n = first (λ t. above 1024 TermNodes (tree_nodes t)) (terms n)

abbrev pub all_limit : Narration → Option ResolveNo
all_limit n = above 65536 AllNodes (sum_by tree_nodes (terms n))

-- ---- names

-- a name that is one of those before it
abbrev pub twice_among : List (List ℕ) → Option ResolveNo
twice_among names = first_after (λ before x. refuse_if (among before x) (Twice x)) [] names

abbrev pub declared_twice : Narration → Option ResolveNo
declared_twice n = twice_among (declared_names n)

abbrev pub line_twice : Narration → Option ResolveNo
line_twice n = twice_among (line_names n)

abbrev pub unknown : Narration → Option ResolveNo
unknown n = first (λ u. refuse_if (not (among (declared_names n) (used_name u))) (Unknown (used_name u))) (uses n)

abbrev pub is_agent : Sort → Bool
is_agent Agent = true
is_agent Number = false
is_agent Key = false

abbrev pub names_agent : List Atom → List ℕ → Bool
names_agent all x = list_any (λ (a : Atom). bytes_eq a.name x && is_agent a.sort) all

-- the name of an atom that is an agent
abbrev pub agent_names : Atom → List (List ℕ)
agent_names a = if is_agent a.sort then a.name ∷ [] else []

abbrev pub names_format : List FormatItem → List ℕ → Bool
names_format formats x = list_any (λ (f : FormatItem). bytes_eq f.title x) formats

-- no agent in the place of a role, a format without arguments, or another name with arguments
abbrev pub is_missorted : List Atom → List FormatItem → Use → Bool
is_missorted all formats (as_role x) = not (names_agent all x)
is_missorted all formats (as_atom x) = names_format formats x
is_missorted all formats (as_format x count) = not (names_format formats x)

abbrev pub wrong_sort : Narration → Option ResolveNo
wrong_sort n = first (λ u. refuse_if (is_missorted (atoms n) n.formats u) (WrongSort (used_name u))) (uses n)

-- the first format of this name has so many fields
abbrev pub has_count : List FormatItem → List ℕ → ℕ → Bool
has_count [] x count = false
has_count (f ∷ fs) x count = if bytes_eq f.title x then field_count f.pieces == count else has_count fs x count

-- a format with another number of arguments than fields
abbrev pub is_miscounted : List FormatItem → Use → Bool
is_miscounted formats (as_role x) = false
is_miscounted formats (as_atom x) = false
is_miscounted formats (as_format x count) = not (has_count formats x count)

abbrev pub wrong_count : Narration → Option ResolveNo
wrong_count n = first (λ u. refuse_if (is_miscounted n.formats u) (WrongCount (used_name u))) (uses n)

-- ---- formats

-- the place of the first `rest` that a piece follows
abbrev pub early_rest : List Piece → Option ℕ
early_rest [] = None
early_rest (Field Rest ∷ piece ∷ pieces) = Some 0
early_rest (piece ∷ pieces) = option_map (λ i. i + 1) (early_rest pieces)

-- why pieces make no format: the head is empty, or a piece follows a `rest`
abbrev pub shape_fault : List Piece → Option FormatNo
shape_fault pieces = if length (head pieces) == 0 then Some NoHead else option_map RestNotLast (early_rest pieces)

abbrev pub misshapen : Narration → Option ResolveNo
misshapen n = first (λ (f : FormatItem). option_map (FormatShape f.title) (shape_fault f.pieces)) n.formats

-- neither head is a prefix of the other
abbrev pub are_apart : List Piece → List Piece → Bool
are_apart pieces others = not (starts_with nat_eq (head others) (head pieces)) && not (starts_with nat_eq (head pieces) (head others))

-- the first of these formats that isn't apart from a later one
abbrev pub overlaps : List FormatValue → FormatValue → Option ResolveNo
overlaps before g = first (λ (f : FormatValue). refuse_if (not (are_apart f.pieces g.pieces)) (Overlap f.name g.name)) before

abbrev pub overlap : Narration → Option ResolveNo
overlap n = first_after overlaps [] (formats_of n)

-- ---- messages and knowledge, as the protocol has them

abbrev pub self_send : ProtocolValue → Option ResolveNo
self_send p = first_after (λ before (a : ActionValue). refuse_if (a.from == a.to) (SelfSend (length before + 1))) [] p.actions

abbrev pub is_among : List term.Tree → term.Tree → Bool
is_among before t = list_any (λ u. term.tree_eqb u t) before

-- the first term of a role's knowledge that is one of those before it
abbrev pub known_again : ProtocolValue → List ℕ × List term.Tree → Option ResolveNo
known_again p k = first_after (λ before t. refuse_if (is_among before t) (KnowledgeTwice k.0 (term_text p t))) [] k.1

abbrev pub known_twice : ProtocolValue → Option ResolveNo
known_twice p = first (known_again p) (zip p.roles p.knows)

-- the first subterm of what roles know that is wider than this, and of the messages
abbrev pub wide_knowledge : ℕ → ℕ → ProtocolValue → Option ResolveNo
wide_knowledge least most p = first (λ (k : List ℕ × List term.Tree). refuse_if (not (all_fit_width least p.formats most k.1)) (Wide (Know k.0))) (zip p.roles p.knows)

abbrev pub wide_message : ℕ → ℕ → ProtocolValue → Option ResolveNo
wide_message least most p = first_after (λ before (a : ActionValue). refuse_if (not (fits_width least p.formats most a.message)) (Wide (Action (length before + 1)))) [] p.actions

-- ---- all of them, in order

abbrev pub limit_checks : List (Narration → Option ResolveNo)
limit_checks = name_limit ∷ format_limit ∷ field_limit ∷ role_limit ∷ action_limit ∷ term_limit ∷ all_limit ∷ []

abbrev pub name_checks : List (Narration → Option ResolveNo)
name_checks = declared_twice ∷ line_twice ∷ unknown ∷ wrong_sort ∷ wrong_count ∷ []

abbrev pub format_checks : List (Narration → Option ResolveNo)
format_checks = misshapen ∷ overlap ∷ []

-- where atoms and hashes have the least width, and no subterm may be wider than the most
abbrev pub protocol_checks : ℕ → ℕ → List (ProtocolValue → Option ResolveNo)
protocol_checks least most = self_send ∷ known_twice ∷ wide_knowledge least most ∷ wide_message least most ∷ []

abbrev pub first_fault : {X : Type 0} → List (X → Option ResolveNo) → X → Option ResolveNo
first_fault checks x = first (λ check. check x) checks

-- Why a narration is no protocol, if it isn't: what the first check says that finds something wrong.
unfoldable pub fault : ℕ → ℕ → Narration → Option ResolveNo
fault least most n =
    option_or (first_fault limit_checks n) (option_or (first_fault name_checks n)
    (option_or (first_fault format_checks n) (first_fault (protocol_checks least most) (protocol_of n))))

abbrev pub IsWellFormed : ℕ → ℕ → Narration → Type 0
IsWellFormed least most n = fault least most n ≡ None

-- the place of the first of these terms that is one of those before it, as the code finds it
abbrev pub again_at : List term.Tree → List term.Tree → Option ℕ
again_at before [] = None
again_at before (t ∷ ts) = if is_among before t then Some (length before) else again_at (before ++ t ∷ []) ts
