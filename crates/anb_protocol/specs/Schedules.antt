-- Which turns of a schedule are taken, where all roles play together.
use Rattle.std.specs.Prelude.{◌≡◌, ℕ, ◌+◌, ◌<◌, ◌==◌, ◌&&◌, ◌||◌, List, [], ◌∷◌, ◌++◌, length, count_by, Bool, Option, Some, None, slice_get, if◌then◌else◌}
use Rattle.std.specs.Option.{option_and_then}
use Rattle.std.specs.List.{list_any}
use Rattle.anb_protocol.specs.Choices.{each_after}
use Rattle.anb_protocol.specs.Protocols.{ActionValue, ProtocolValue}

-- a turn that was taken: a role, an action by its number from 1, and whether the role sent it
pub record Turn : Type 0 where
  pub role : ℕ
  pub action : ℕ
  pub sends : Bool

-- the role's part in an action
abbrev pub part_in : ℕ → List ActionValue → ActionValue → List Turn
part_in role before a = if (a.from == role) || (a.to == role) then record { role = role; action = length before + 1; sends = a.from == role } ∷ [] else []

-- all that a role is to do, in order
abbrev pub parts_of : ProtocolValue → ℕ → List Turn
parts_of p role = each_after (part_in role) [] p.actions

-- what it is to do next, after these turns
abbrev pub next_of : ProtocolValue → List Turn → ℕ → Option Turn
next_of p taken role = slice_get (parts_of p role) (count_by (λ (t : Turn). t.role == role) taken)

abbrev pub was_sent : List Turn → ℕ → Bool
was_sent taken action = list_any (λ (t : Turn). t.sends && (t.action == action)) taken

-- A turn of a role is taken where its next action is a send, or a receive of an action that was sent.
abbrev pub if_ready : List Turn → Turn → Option Turn
if_ready taken t = if t.sends || was_sent taken t.action then Some t else None

abbrev pub turn_of : ProtocolValue → List Turn → ℕ → Option Turn
turn_of p taken role = option_and_then (if_ready taken) (next_of p taken role)

abbrev pub append_if : List Turn → Option Turn → List Turn
append_if taken None = taken
append_if taken (Some t) = taken ++ t ∷ []

-- the turns of a schedule that are taken, behind those that were; every other turn is passed over
abbrev pub taken_after : ProtocolValue → List Turn → List ℕ → List Turn
taken_after p taken [] = taken
taken_after p taken (role ∷ turns) = taken_after p (append_if taken (turn_of p taken role)) turns

abbrev pub taken : ProtocolValue → List ℕ → List Turn
taken p turns = taken_after p [] turns

-- a schedule is complete where no role has an action left
abbrev pub IsComplete : ProtocolValue → List ℕ → Type 0
IsComplete p turns = (role : ℕ) → role < length p.roles → next_of p (taken p turns) role ≡ None
