-- The chart of a protocol, with what one role checks and learns.
use Rattle.std.specs.Prelude.{ℕ, ◌+◌, List, [], ◌++◌, length, codes, count_by, if◌then◌else◌}
use Rattle.std.specs.List.{flat_map}
use Rattle.anb_protocol.specs.Choices.{each_after}
use Rattle.anb_protocol.specs.Protocols.{ActionValue, ProtocolValue}
use Rattle.anb_code.specs.CodeValue.{CodeValue}
use Rattle.anb_chart.specs.Charts.{arrow_line, line, participant, participant_line}
use Rattle.anb_pattern.specs.Taken.{TakenValue}
use Rattle.anb_report.specs.Noting.{notes_of}
use Rattle.anb_report.specs.Reporting.{is_own, joined, notes_at_event, terms_in}

-- a note over a role
abbrev pub note_over : ProtocolValue → ℕ → List ℕ → List ℕ
note_over p role note = line (codes "Note over " ++ (participant p role ++ (codes ": " ++ note)))

module _ (p : ProtocolValue) (role : ℕ) (notes : List (List (List ℕ))) where
  abbrev pub event_notes : ℕ → List ℕ
  event_notes event = flat_map (note_over p role) (notes_at_event notes event)

  -- an arrow, and below it the notes of the role's event
  abbrev pub noted_lines : ℕ → ℕ → ActionValue → List ℕ
  noted_lines event number a = arrow_line p number a ++ (if is_own role a then event_notes event else [])

  abbrev pub noted_text : List ActionValue → ActionValue → List ℕ
  noted_text before a = noted_lines (count_by (is_own role) before + 1) (length before + 1) a

  -- the notes of event 0 stand above the first arrow
  abbrev pub noted_chart : List ℕ
  noted_chart =
      codes "sequenceDiagram\n" ++ (flat_map participant_line p.roles ++ (event_notes 0 ++ each_after noted_text [] p.actions))

-- by a code of the role, and by what it takes
abbrev pub role_chart : ProtocolValue → ℕ → CodeValue → TakenValue → List ℕ
role_chart p role code taken = noted_chart p role (joined 0 (notes_of p code (terms_in p role code) taken.unchecked) taken.notes)
