-- What holds of well-formed narrations and of plans, whatever they are.
use Rattle.std.specs.Prelude.{◌≡◌, ◌≢◌, ℕ, ◌<◌, ◌≤◌, List, [], ◌++◌, length, map, slice_get, Some, true, AllPairs}
use Rattle.std.specs.List.{AllByRecursion}
use Rattle.anb_base.specs.Bytes.{IsBytes}
use Rattle.anb_base.specs.declared.TheConstants.{ARRIVAL, WIDE}
use Rattle.anb_format.specs.Formats.{FormatValue, AreApart, IsSound, field_count}
use Rattle.anb_term.specs.Tree.{Tree, trees_of, tree_size, nodes, IsFormed, AreFormed}
use Rattle.anb_term.specs.Value.{RecipeTree, value}
use Rattle.anb_term.specs.FreeAlgebra.{terms_over}
use Rattle.anb_algebra.specs.ByteMeaning.{has_operator}
use Rattle.anb_plays.specs.Plans.{Event, know, known, FreshIsNew}
use Rattle.anb_plays.specs.Plays.{Played}
use Rattle.anb_protocol.specs.Protocols.{ActionValue, ProtocolValue}
use Rattle.anb_protocol.specs.Texts.{IsTermOf, known_terms, known_texts}
use Rattle.anb_protocol.specs.Widths.{fits_width}
use Rattle.anb_protocol.specs.WellFormed.{IsProtocol}
use Rattle.anb_protocol.specs.Plans.{messages, plan_of, term_in}
use Rattle.anb_protocol.specs.Plays.{events_of, meaning_of, Agrees, IsSendable, IsPlay, honest_bytes}

-- an action between two roles of the protocol
pub record IsActionOf (p : ProtocolValue) (a : ActionValue) : Type 0 where
  pub from : a.from < length p.roles
  pub to : a.to < length p.roles
  pub apart : a.from ≡ a.to → ⊥

-- what holds of every protocol
pub record HoldsOf (p : ProtocolValue) : Type 0 where
  pub formats : length p.formats ≤ 64
  pub titles : AllPairs (λ (f g : FormatValue). f.name ≢ g.name) p.formats
  pub fields : AllByRecursion (λ (f : FormatValue). field_count f.pieces ≤ 32) p.formats
  pub sound : AllByRecursion (λ (f : FormatValue). IsSound f.pieces) p.formats
  pub apart : (i j : ℕ) (f g : FormatValue) → i < j → slice_get p.formats i ≡ Some f → slice_get p.formats j ≡ Some g → AreApart f.pieces g.pieces
  pub roles : length p.roles ≤ 32
  pub knows : length p.knows ≡ length p.roles
  pub actions : length p.actions ≤ 256
  pub ends : AllByRecursion (IsActionOf p) p.actions
  pub terms : AllByRecursion (IsTermOf p) (known_terms p ++ messages p.actions)
  pub formed : AllByRecursion (IsFormed (has_operator p.formats)) (known_terms p ++ messages p.actions)
  pub sizes : AllByRecursion (λ t. tree_size t ≤ 1024) (known_terms p ++ messages p.actions)
  pub nodes : nodes (known_terms p ++ messages p.actions) ≤ 65536
  pub widths : AllByRecursion (λ t. fits_width ARRIVAL p.formats WIDE t ≡ true) (known_terms p ++ messages p.actions)

abbrev pub ProtocolsHold : Type 0
ProtocolsHold = (p : ProtocolValue) → IsProtocol p → HoldsOf p

-- the texts of the terms that a role knows differ
abbrev pub KnownTextsDiffer : Type 0
KnownTextsDiffer = (p : ProtocolValue) (role : ℕ) → IsProtocol p → AllPairs (λ one other. one ≢ other) (known_texts p role)

-- a plan begins with what the role knows, and goes on with other events
abbrev pub KnowsFirst : List Event → Type 0
KnowsFirst plan = (ts : List Tree) × (rest : List Event) × (plan ≡ map know ts ++ rest) × (known rest ≡ [])

abbrev pub PlansKnowFirst : Type 0
PlansKnowFirst = (p : ProtocolValue) (role : ℕ) → KnowsFirst (events_of p role)

-- each term of a plan is a term of the protocol
abbrev pub TermsOfPlans : Type 0
TermsOfPlans = (p : ProtocolValue) (role : ℕ) → IsProtocol p → AllByRecursion (λ e. IsTermOf p (term_in e)) (plan_of p role)

-- each name that a role makes occurs in nothing that it has by then
abbrev pub MadeIsNew : Type 0
MadeIsNew = (p : ProtocolValue) (role : ℕ) → FreshIsNew (events_of p role)

-- there is one play at most
abbrev pub PlayIsOne : ProtocolValue → Type 0
PlayIsOne p = (role : ℕ) (init : List (List ℕ)) (seed : List ℕ) (session : ℕ) (arrivals : List (List ℕ)) (q r : Played (List ℕ))
    → IsPlay p role init seed session arrivals q → IsPlay p role init seed session arrivals r → q ≡ r

-- and it can't be that there is none, where each message has a recipe
abbrev pub PlayIsThere : ProtocolValue → Type 0
PlayIsThere p = (role : ℕ) (init : List (List ℕ)) (seed : List ℕ) (session : ℕ) (arrivals : List (List ℕ))
    → IsSendable p → role < length p.roles → AllByRecursion IsBytes init → AllByRecursion IsBytes arrivals
    → ((q : Played (List ℕ)) → IsPlay p role init seed session arrivals q → ⊥) → ⊥

-- the honest bytes of terms agree with them, and each recipe has the honest bytes of its term
abbrev pub HonestAgrees : ProtocolValue → Type 0
HonestAgrees p = (atoms : ℕ → List ℕ) (frame : List Tree) → ((a : ℕ) → IsBytes (atoms a)) → AreFormed (has_operator p.formats) (trees_of frame)
    → AllByRecursion IsBytes (map (honest_bytes p atoms) frame)
    × Agrees p frame (map (honest_bytes p atoms) frame)
    × ((r : RecipeTree) (t : Tree) → value (terms_over (has_operator p.formats)) frame r ≡ Some t
    → value (meaning_of p) (map (honest_bytes p atoms) frame) r ≡ Some (honest_bytes p atoms t))
