-- Places in what arrives, and how they are written: from the inside out.
use Rattle.std.specs.Prelude.{◌≡◌, ℕ, zero, suc, ◌+◌, ◌-◌, ◌==◌, ◌||◌, List, [], ◌∷◌, ◌++◌, reverse, take, drop, Bool, true, false, codes, slice_get, Option, Some, None, if◌then◌else◌}
use Rattle.std.specs.Global.{Vec}
use Rattle.std.specs.Option.{option_map_or}
use Rattle.anb_term.specs.declared.term.Op.{Op}
use Rattle.anb_term.specs.declared.term.Op.TheVariants.{Hash, Mac, Seal, Wrap, Format}
use Rattle.anb_term.specs.Operator.{keys}
use Rattle.anb_term.specs.Tree.{Tree, Trees, leaf, node, none, more, list_of}
use Rattle.anb_plays.specs.Plans.{Event}
use Rattle.anb_protocol.specs.Plays.{events_of}
use Rattle.anb_protocol.specs.Protocols.{ActionValue, ProtocolValue, role_name}
use Rattle.anb_protocol.specs.Texts.{op_text, term_text}
use Rattle.anb_judge.specs.Verdicts.{sides}
use Rattle.anb_verdict.specs.declared.place.Place.{Place}

-- the operand with a number, from 0
abbrev pub operand : ℕ → Tree → Option Tree
operand i (leaf n) = None
operand i (node o ts) = slice_get (list_of ts) i

-- the part of a term at a place, told by the numbers of operands on the way from the outside
abbrev pub part_at : Tree → List ℕ → Option Tree
part_at t [] = Some t
part_at t (i ∷ path) = option_map_or (λ u. part_at u path) (operand i t) None

abbrev pub is_own : (role : ℕ) → ActionValue → Bool
is_own role a = a.from == role || a.to == role

-- the action with the n-th message of those that a role sends and receives, from 1
abbrev pub own_of : (role : ℕ) → List ActionValue → (n : ℕ) → Option ActionValue
own_of role [] n = None
own_of role (a ∷ actions) n =
    if is_own role a then (if n == 1 then Some a else own_of role actions (n - 1))
    else own_of role actions n

abbrev pub own_action : ProtocolValue → (role n : ℕ) → Option ActionValue
own_action p role n = own_of role p.actions n

abbrev pub narrated_at : ProtocolValue → (role event : ℕ) → Option Tree
narrated_at p role event = option_map_or (λ (a : ActionValue). Some a.message) (own_action p role event) None

abbrev pub sender_at : ProtocolValue → (role event : ℕ) → List ℕ
sender_at p role event = option_map_or (λ (a : ActionValue). role_name p a.from) (own_action p role event) []

-- around a place its keys are written, each with a comma behind it
abbrev pub key_text : ProtocolValue → Tree → (i : ℕ) → List ℕ
key_text p t i = option_map_or (λ u. term_text p u ++ 44 ∷ []) (operand i t) []

abbrev pub keys_text : ProtocolValue → Op → Tree → List ℕ
keys_text p Hash t = []
keys_text p Mac t = key_text p t 0
keys_text p Seal t = key_text p t 0
keys_text p Wrap t = key_text p t 0 ++ key_text p t 1
keys_text p (Format i count) t = []

-- an operator around a place, as `m5(..)` and `scrypt(KAB,..)`
abbrev pub around : ProtocolValue → Tree → List ℕ
around p (leaf n) = []
around p (node o ts) = op_text p o ++ 40 ∷ keys_text p o (node o ts) ++ codes "..)"

-- a place where so many operators stand around it is joined by `in`, or first by another word
abbrev pub joint : List ℕ → List ℕ → List ℕ
joint word [] = word
joint word (i ∷ path) = codes " in "

-- a part of this term, and what stands around it
abbrev pub place_in : ProtocolValue → (word : List ℕ) → Tree → List ℕ → List ℕ
place_in p word t [] = term_text p t
place_in p word t (i ∷ path) = option_map_or (λ u. place_in p word u path ++ joint word path ++ around p t) (operand i t) []

-- a place in what comes at an event
abbrev pub place_text : ProtocolValue → (role : ℕ) (word : List ℕ) → Place → List ℕ
place_text p role word place = option_map_or (λ t. place_in p word t place.path.items) (narrated_at p role place.event) []

-- the narrated part there, and its operand with a number
abbrev pub narrated_part : ProtocolValue → (role : ℕ) → Place → Option Tree
narrated_part p role place = option_map_or (λ t. part_at t place.path.items) (narrated_at p role place.event) None

abbrev pub part_text : ProtocolValue → (role : ℕ) → Place → List ℕ
part_text p role place = option_map_or (term_text p) (narrated_part p role place) []

abbrev pub operand_text : ProtocolValue → (role : ℕ) → Place → (i : ℕ) → List ℕ
operand_text p role place i = option_map_or (λ t. option_map_or (term_text p) (operand i t) []) (narrated_part p role place) []

abbrev pub operator_text : ProtocolValue → Tree → List ℕ
operator_text p (leaf n) = []
operator_text p (node o ts) = op_text p o

abbrev pub head_text : ProtocolValue → (role : ℕ) → Place → List ℕ
head_text p role place = option_map_or (operator_text p) (narrated_part p role place) []

-- ---- where an atom stands: outside of keys where it can, and there the first time

-- the first of these ways that is there, behind the number of its operand, where the first one has number i
abbrev pub first_way : (i : ℕ) → List (Option (List ℕ)) → Option (List ℕ)
first_way i [] = None
first_way i (None ∷ ways) = first_way (i + 1) ways
first_way i (Some path ∷ ways) = Some (i ∷ path)

abbrev pub or_else : Option (List ℕ) → Option (List ℕ) → Option (List ℕ)
or_else (Some path) way = Some path
or_else None way = way

-- that of an operator with so many keys
abbrev pub outside_first : (keyed : ℕ) → List (Option (List ℕ)) → Option (List ℕ)
outside_first keyed ways = or_else (first_way keyed (drop keyed ways)) (first_way 0 (take keyed ways))

abbrev mutual
  pub way_to : ℕ → Tree → Option (List ℕ)
  way_to a (leaf n) = if n == a then Some [] else None
  way_to a (node o ts) = outside_first (keys o) (ways_to a ts)

  pub ways_to : ℕ → Trees → List (Option (List ℕ))
  ways_to a none = []
  ways_to a (more t ts) = way_to a t ∷ ways_to a ts

-- The first arrival that has the atom: its event, and the way there. What comes next is at this event.
abbrev pub place_from : (a event : ℕ) → List Bool → List Tree → Option (ℕ × List ℕ)
place_from a event [] arrivals = None
place_from a event (true ∷ sides) arrivals = place_from a (event + 1) sides arrivals
place_from a event (false ∷ sides) [] = None
place_from a event (false ∷ sides) (t ∷ arrivals) = option_map_or (λ path. Some (event, path)) (way_to a t) (place_from a (event + 1) sides arrivals)

abbrev pub place_in_arrivals : ProtocolValue → (role : ℕ) → List Tree → (a : ℕ) → Option (ℕ × List ℕ)
place_in_arrivals p role arrivals a = place_from a 1 (sides (events_of p role)) arrivals

abbrev pub place_value : Place → ℕ × List ℕ
place_value place = (place.event, place.path.items)

-- a way from the inside out
abbrev pub reversed : Vec ℕ → List ℕ
reversed way = reverse way.items
