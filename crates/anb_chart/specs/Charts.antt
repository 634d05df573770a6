-- A protocol as a sequence diagram, in Mermaid's language: a participant for each role, and an arrow for each action.
use Rattle.std.specs.Prelude.{ℕ, ◌+◌, List, [], ◌∷◌, ◌++◌, length, map, codes, decimal, slice_get}
use Rattle.std.specs.List.{flat_map, join_by}
use Rattle.std.specs.Option.{option_map_or}
use Rattle.anb_protocol.specs.Choices.{each_after}
use Rattle.anb_protocol.specs.Plans.{made_at}
use Rattle.anb_protocol.specs.Protocols.{ActionValue, ProtocolValue}
use Rattle.anb_protocol.specs.Texts.{atom_name, term_text}
use Rattle.anb_chart.specs.Participants.{escaped}

-- a line of the diagram, which stands four spaces in and ends with the byte 0A
abbrev pub line : List ℕ → List ℕ
line text = codes "    " ++ (text ++ 10 ∷ [])

abbrev pub participant_line : List ℕ → List ℕ
participant_line role = line (codes "participant " ++ escaped role)

-- a role, by its number
abbrev pub participant : ProtocolValue → ℕ → List ℕ
participant p role = option_map_or escaped (slice_get p.roles role) []

-- a note over the sender of an action with the names that it makes, where it makes some
abbrev pub note_line : ProtocolValue → ActionValue → List (List ℕ) → List ℕ
note_line p a [] = []
note_line p a (name ∷ names) =
    line (codes "Note over " ++ (participant p a.from ++ (codes ": new " ++ join_by (λ x. x) (codes ", ") (name ∷ names))))

-- the arrow of an action, with its number and the canonical text of its message
abbrev pub arrow_line : ProtocolValue → ℕ → ActionValue → List ℕ
arrow_line p number a =
    line (participant p a.from ++ (codes "->>" ++ (participant p a.to ++ (codes ": " ++ (decimal number ++ 32 ∷ term_text p a.message)))))

abbrev pub action_lines : ProtocolValue → ℕ → ActionValue → List (List ℕ) → List ℕ
action_lines p number a names = note_line p a names ++ arrow_line p number a

-- actions are numbered from 1
abbrev pub action_text : ProtocolValue → List ActionValue → ActionValue → List ℕ
action_text p before a = action_lines p (length before + 1) a (map (atom_name p) (made_at p before a))

abbrev pub chart : ProtocolValue → List ℕ
chart p = codes "sequenceDiagram\n" ++ (flat_map participant_line p.roles ++ each_after (action_text p) [] p.actions)
