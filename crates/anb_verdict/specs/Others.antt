-- What something that comes must be compared with.
use Rattle.std.specs.Prelude.{ℕ, List, Bool, false, if◌then◌else◌}
use Rattle.std.specs.List.{list_any}
use Rattle.std.specs.Option.{option_map_or}
use Rattle.anb_term.specs.Tree.{Tree, leaf, node, tree_eqb}
use Rattle.anb_protocol.specs.Plans.{PlanEvent, to_know, to_make, to_send, to_receive, plan_of}
use Rattle.anb_protocol.specs.Protocols.{ProtocolValue}
use Rattle.anb_verdict.specs.declared.missing.Other.{Other}
use Rattle.anb_verdict.specs.declared.missing.Other.TheVariants.{Drew, Knows, Came, Makes}
use Rattle.anb_verdict.specs.declared.place.Place.{Place}
use Rattle.anb_verdict.specs.Places.{narrated_part}

abbrev pub knows : Tree → PlanEvent → Bool
knows t (to_know u) = tree_eqb t u
knows t (to_make u) = false
knows t (to_send action u) = false
knows t (to_receive action u) = false

abbrev pub makes : Tree → PlanEvent → Bool
makes t (to_know u) = false
makes t (to_make u) = tree_eqb t u
makes t (to_send action u) = false
makes t (to_receive action u) = false

-- a name that the role neither knows nor draws came elsewhere, and it makes all else itself
abbrev pub other_by_form : Tree → Other
other_by_form (leaf n) = Came
other_by_form (node o ts) = Makes

abbrev pub other_than : List PlanEvent → Tree → Other
other_than plan t =
    if list_any (knows t) plan then Knows
    else if list_any (makes t) plan then Drew
    else other_by_form t

-- of the narrated term at a place
abbrev pub other_at : ProtocolValue → (role : ℕ) → Place → Other
other_at p role place = option_map_or (other_than (plan_of p role)) (narrated_part p role place) Makes
