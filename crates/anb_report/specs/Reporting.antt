-- The report on the roles of a protocol: what each does with each message, and what it takes unchecked.
use Rattle.std.specs.Prelude.{ℕ, ◌+◌, ◌==◌, ◌||◌, List, [], ◌∷◌, ◌++◌, Bool, length, map, codes, decimal, count_by, slice_get, unwrap_or, if◌then◌else◌}
use Rattle.std.specs.List.{join_by}
use Rattle.std.specs.Option.{option_map_or}
use Rattle.anb_term.specs.Tree.{Tree}
use Rattle.anb_protocol.specs.Choices.{each_after}
use Rattle.anb_protocol.specs.Plans.{made_at}
use Rattle.anb_protocol.specs.Protocols.{ActionValue, ProtocolValue, role_name}
use Rattle.anb_protocol.specs.Texts.{atom_name, term_text}
use Rattle.anb_code.specs.CodeValue.{CodeValue}
use Rattle.anb_explain.specs.Explained.{line, register_terms}
use Rattle.anb_pattern.specs.Taken.{TakenValue}
use Rattle.anb_report.specs.Remarks.{remarks}
use Rattle.anb_report.specs.Noting.{notes_of}

-- a role sends or receives an action's message
abbrev pub is_own : ℕ → ActionValue → Bool
is_own role a = a.from == role || a.to == role

-- ---- lines

abbrev pub counted : ℕ → List ℕ
counted n = if n == 1 then codes "1 action" else decimal n ++ codes " actions"

abbrev pub head_line : ProtocolValue → ℕ → List ℕ
head_line p role = line (codes "role " ++ (role_name p role ++ (codes ": " ++ counted (count_by (is_own role) p.actions))))

-- the names that are made for a message
abbrev pub with_new : List (List ℕ) → List ℕ
with_new [] = []
with_new (name ∷ names) = codes ", with new " ++ join_by (λ x. x) (codes ", ") (name ∷ names)

-- to whom it is sent, or from whom it is received
abbrev pub peer : ProtocolValue → ℕ → ActionValue → List ℕ
peer p role a = if a.from == role then codes "to " ++ role_name p a.to else codes "from " ++ role_name p a.from

abbrev pub new_for : ℕ → ActionValue → List (List ℕ) → List ℕ
new_for role a names = if a.from == role then with_new names else []

abbrev pub event_line : ProtocolValue → ℕ → ℕ → ℕ → ActionValue → List (List ℕ) → List ℕ
event_line p role event action a names =
    line (codes "  event " ++ (decimal event ++ (codes ", action " ++ (decimal action ++ (codes ", " ++ (peer p role a
    ++ (codes ": " ++ (term_text p a.message ++ new_for role a names))))))))

-- the notes of an event, where there are some
abbrev pub notes_line : List (List ℕ) → List ℕ
notes_line [] = []
notes_line (note ∷ notes) = line (codes "    " ++ join_by (λ x. x) (codes "; ") (note ∷ notes))

-- the beginning, where something is done with what the role knows
abbrev pub start_lines : List (List ℕ) → List ℕ
start_lines [] = []
start_lines (note ∷ notes) = line (codes "  event 0, at the beginning") ++ notes_line (note ∷ notes)

-- ---- a role

abbrev pub notes_at_event : List (List (List ℕ)) → ℕ → List (List ℕ)
notes_at_event notes event = option_map_or (λ (n : List (List ℕ)). n) (slice_get notes event) []

-- the notes of events from this one on, and behind them further ones of each
abbrev pub joined : ℕ → (notes further : List (List (List ℕ))) → List (List (List ℕ))
joined event [] further = []
joined event (n ∷ notes) further = (n ++ notes_at_event further event) ∷ joined (event + 1) notes further

module _ (p : ProtocolValue) (role : ℕ) (notes : List (List (List ℕ))) where
  -- events are numbered from 1, as actions are
  abbrev pub event_lines : ℕ → ℕ → ActionValue → List (List ℕ) → List ℕ
  event_lines event action a names = event_line p role event action a names ++ notes_line (notes_at_event notes event)

  abbrev pub action_lines : ℕ → ℕ → ActionValue → List (List ℕ) → List ℕ
  action_lines event action a names = if is_own role a then event_lines event action a names else []

  abbrev pub action_text : List ActionValue → ActionValue → List ℕ
  action_text before a = action_lines (count_by (is_own role) before + 1) (length before + 1) a (map (atom_name p) (made_at p before a))

  abbrev pub events_text : List ℕ
  events_text = each_after action_text [] p.actions

-- where the registers have these terms, and this is what the role takes
abbrev pub role_text : ProtocolValue → ℕ → CodeValue → List Tree → TakenValue → List ℕ
role_text p role code terms taken =
    let notes = joined 0 (notes_of p code terms taken.unchecked) taken.notes in
    head_line p role ++ (start_lines (notes_at_event notes 0) ++ (events_text p role notes ++ taken.lines))

-- ---- all roles

-- the terms of a code's registers; a code that fits a role has them
abbrev pub terms_in : ProtocolValue → ℕ → CodeValue → List Tree
terms_in p role code = unwrap_or (register_terms p role code) []

abbrev pub role_report : ProtocolValue → ℕ → CodeValue → TakenValue → List ℕ
role_report p role code taken = role_text p role code (terms_in p role code) taken

abbrev pub taken_at : List TakenValue → ℕ → TakenValue
taken_at taken role = unwrap_or (slice_get taken role) (record { notes = []; lines = []; unchecked = [] })

-- the codes are those of the roles in order, and so is what they take; below stands what is noted of the protocol
abbrev pub role_after : ProtocolValue → List TakenValue → List CodeValue → CodeValue → List ℕ
role_after p taken before code = role_report p (length before) code (taken_at taken (length before))

abbrev pub report : ProtocolValue → List CodeValue → List TakenValue → List ℕ
report p codes taken = each_after (role_after p taken) [] codes ++ remarks p
