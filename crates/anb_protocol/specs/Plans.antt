-- The plan of a role: one sequence of events.
use Rattle.std.specs.Prelude.{ℕ, ◌+◌, ◌<◌, ◌==◌, ◌&&◌, not, nat_eq, List, [], ◌∷◌, ◌++◌, length, map, filter, Bool, true, false, IsTrue, slice_get, if◌then◌else◌}
use Rattle.std.specs.Option.{option_map_or}
use Rattle.std.specs.List.{list_any}
use Rattle.anb_term.specs.Tree.{Tree, leaf}
use Rattle.anb_protocol.specs.declared.parts.Atom.{Atom}
use Rattle.anb_protocol.specs.Choices.{each_after}
use Rattle.anb_protocol.specs.Names.{distinct}
use Rattle.anb_protocol.specs.Protocols.{ActionValue, ProtocolValue}
use Rattle.anb_protocol.specs.Texts.{atom_name, atoms_in, atoms_in_each, known_by, known_terms}
use Rattle.anb_protocol.specs.Checks.{is_agent}

-- a term that a role knows, a name that it makes, a message that it sends or receives with the number
-- of its action, from 1
pub data PlanEvent : Type 0 where
  to_know : Tree → PlanEvent
  to_make : Tree → PlanEvent
  to_send : ℕ → Tree → PlanEvent
  to_receive : ℕ → Tree → PlanEvent

-- the term of an event
abbrev pub term_in : PlanEvent → Tree
term_in (to_know t) = t
term_in (to_make t) = t
term_in (to_send action t) = t
term_in (to_receive action t) = t

abbrev pub names_number_or_key : ProtocolValue → ℕ → Bool
names_number_or_key p a = option_map_or (λ (x : Atom). not (is_agent x.sort)) (slice_get p.atoms a) false

abbrev pub messages : List ActionValue → List Tree
messages actions = map (λ (a : ActionValue). a.message) actions

abbrev pub occurs : List Tree → ℕ → Bool
occurs ts a = list_any (λ b. b == a) (atoms_in_each ts)

-- A name is made where it is a number or a key and occurs in no term that some role knows, and in no
-- message before.
abbrev pub is_made : ProtocolValue → List ActionValue → ℕ → Bool
is_made p before a = names_number_or_key p a && not (occurs (known_terms p) a) && not (occurs (messages before) a)

-- the names that the sender of a message makes, in the order in which they first occur in it
abbrev pub made : ProtocolValue → List ActionValue → Tree → List ℕ
made p before message = filter (is_made p before) (distinct nat_eq (atoms_in message))

abbrev pub made_at : ProtocolValue → List ActionValue → ActionValue → List ℕ
made_at p before a = made p before a.message

-- for each action, the names that its sender makes
abbrev pub names_made_at : ProtocolValue → List ActionValue → ActionValue → List (List (List ℕ))
names_made_at p before a = map (atom_name p) (made_at p before a) ∷ []

abbrev pub names_made : ProtocolValue → List (List (List ℕ))
names_made p = each_after (names_made_at p) [] p.actions

-- what a role does at an action with this number, whose sender makes these names
abbrev pub own_events : ℕ → ℕ → List ℕ → ActionValue → List PlanEvent
own_events role number names a =
    if a.from == role then map (λ x. to_make (leaf x)) names ++ to_send number a.message ∷ []
    else if a.to == role then to_receive number a.message ∷ []
    else []

-- behind the actions before it
abbrev pub events_at : ProtocolValue → ℕ → List ActionValue → ActionValue → List PlanEvent
events_at p role before a = own_events role (length before + 1) (made p before a.message) a

unfoldable pub plan_of : ProtocolValue → ℕ → List PlanEvent
plan_of p role = map to_know (known_by p role) ++ each_after (events_at p role) [] p.actions

abbrev pub is_to_make : PlanEvent → Bool
is_to_make (to_make t) = true
is_to_make (to_know t) = false
is_to_make (to_send i t) = false
is_to_make (to_receive i t) = false

-- some role makes a name
abbrev pub MakesNames : ProtocolValue → Type 0
MakesNames p = (role : ℕ) × (role < length p.roles) × IsTrue (list_any is_to_make (plan_of p role))
