-- Which values are protocols, and when a narration can be counted.
use Rattle.std.specs.Prelude.{◌≡◌, ℕ, ◌<◌, ◌≤◌, ◌^◌, List, length}
use Rattle.std.specs.List.{AllByRecursion, sum_by}
use Rattle.anb_base.specs.declared.TheConstants.{ARRIVAL, WIDE}
use Rattle.anb_format.specs.Formats.{FormatValue, field_count}
use Rattle.anb_term.specs.Tree.{Tree}
use Rattle.anb_syntax.specs.Grammar.{Narration, FormatItem, IsSpellable}
use Rattle.anb_protocol.specs.Names.{all_names, atoms, roles, terms}
use Rattle.anb_protocol.specs.Protocols.{ProtocolValue, protocol_of}
use Rattle.anb_protocol.specs.Texts.{IsTermOf, known_terms, term_text}
use Rattle.anb_protocol.specs.Plans.{messages}
use Rattle.anb_protocol.specs.Checks.{IsWellFormed, tree_nodes}

-- the protocol of some narration that can be written and is well formed
pub record IsProtocol (p : ProtocolValue) : Type 0 where
  pub narration : Narration
  pub spellable : IsSpellable narration
  pub well_formed : IsWellFormed ARRIVAL WIDE narration
  pub is : p ≡ protocol_of narration

-- each count of it is below 2^32
pub record IsCountable (n : Narration) : Type 0 where
  pub names : AllByRecursion (λ (x : List ℕ). length x < 2 ^ 32) (all_names n)
  pub typed : length (atoms n) < 2 ^ 32
  pub formats : length n.formats < 2 ^ 32
  pub pieces : AllByRecursion (λ (f : FormatItem). length f.pieces < 2 ^ 32) n.formats
  pub roles : length (roles n) < 2 ^ 32
  pub actions : length n.actions < 2 ^ 32
  pub nodes : sum_by tree_nodes (terms n) < 2 ^ 32

-- there are few formats, each with few fields
pub record AreFew (fs : List FormatValue) : Type 0 where
  pub formats : length fs ≤ 64
  pub fields : AllByRecursion (λ (f : FormatValue). field_count f.pieces ≤ 32) fs

-- different terms have different texts
abbrev pub AreToldApart : ProtocolValue → Type 0
AreToldApart p = (t u : Tree) → IsTermOf p t → IsTermOf p u → term_text p t ≡ term_text p u → t ≡ u

-- enough holds of a protocol that its actions and terms can be looked at
pub record CanBeChecked (p : ProtocolValue) : Type 0 where
  pub actions : length p.actions < 2 ^ 32
  pub knows : length p.knows ≡ length p.roles
  pub known : AllByRecursion (IsTermOf p) (known_terms p)
  pub sent : AllByRecursion (IsTermOf p) (messages p.actions)
  pub apart : AreToldApart p
