-- Where names stand in the messages of a protocol, and which role makes them.
use Rattle.std.specs.Prelude.{ℕ, ◌+◌, ◌==◌, List, [], ◌∷◌, ◌++◌, length, map, filter, not, Bool, true, false, Option, Some, None, nat_le, slice_get, if◌then◌else◌}
use Rattle.std.specs.List.{flat_map, range_with_len}
use Rattle.std.specs.Option.{option_map_or}
use Rattle.anb_term.specs.Tree.{leaf, node}
use Rattle.anb_protocol.specs.Plans.{PlanEvent, to_know, to_make, to_send, to_receive, plan_of}
use Rattle.anb_protocol.specs.Protocols.{ActionValue, ProtocolValue}
use Rattle.anb_notes.specs.declared.places.Place.{Place}
use Rattle.anb_notes.specs.declared.standing.Standing.{Standing}
use Rattle.anb_notes.specs.declared.standing.Standing.TheVariants.{AsKey, InClear}
use Rattle.anb_notes.specs.Standing.{names_in}

-- a name at a number: that of an action, from 0, or that of a role
abbrev pub at : ℕ → ℕ → Place
at number name = record { name = name; number = number }

-- the number of the first place with this name
abbrev pub first_of : ℕ → List Place → Option ℕ
first_of x [] = None
first_of x (place ∷ places) = if place.name == x then Some place.number else first_of x places

-- where names stand so, of messages with numbers from this one on
abbrev pub placed : Standing → ℕ → List ActionValue → List Place
placed standing n [] = []
placed standing n (a ∷ actions) = map (at n) (names_in standing a.message) ++ placed standing (n + 1) actions

abbrev pub places : Standing → ProtocolValue → List Place
places standing p = placed standing 0 p.actions

-- ---- who makes a name

-- the name that an event makes, where that is asked for
abbrev pub made_if : Bool → PlanEvent → List ℕ
made_if asked (to_make (leaf n)) = if asked then n ∷ [] else []
made_if asked (to_make (node o ts)) = []
made_if asked (to_know t) = []
made_if asked (to_send action t) = []
made_if asked (to_receive action t) = []

-- the names that a role makes, at the number of the role
abbrev pub made_by : ProtocolValue → ℕ → List Place
made_by p role = map (at role) (flat_map (made_if true) (plan_of p role))

-- A name that some role makes has one place here: no role knows it from the start, and no message has it before.
abbrev pub makers : ProtocolValue → List Place
makers p = flat_map (made_by p) (range_with_len 0 (length p.roles))

-- ---- keys that stood in clear, and keys of others' messages

-- where these are the places in clear: in the message with the first of the name's, or in a later one
abbrev pub is_bare : List Place → Place → Bool
is_bare clear place = option_map_or (λ first. nat_le first place.number) (first_of place.name clear) false

abbrev pub bare_keys : ProtocolValue → List Place
bare_keys p = filter (is_bare (places InClear p)) (places AsKey p)

-- another role than this one receives an action
abbrev pub is_for_other : List ActionValue → (action role : ℕ) → Bool
is_for_other actions action role = option_map_or (λ (a : ActionValue). not (a.to == role)) (slice_get actions action) false

-- where these make names: in a message that another role receives than the one that makes the name
abbrev pub is_from_other : List ActionValue → List Place → Place → Bool
is_from_other actions all place = option_map_or (is_for_other actions place.number) (first_of place.name all) false

abbrev pub others_keys : ProtocolValue → List Place
others_keys p = filter (is_from_other p.actions (makers p)) (places AsKey p)
