-- All roles of a protocol at once, each with a code, over a schedule of turns.
use Rattle.std.specs.Prelude.{ℕ, zero, suc, ◌+◌, ◌==◌, ◌&&◌, not, nat_eq, nat_lt, if◌then◌else◌, List, [], ◌∷◌, ◌++◌, length, map, filter, filter_map, drop, unwrap_or, Bool, true, is_none, Option, Some, None, option_map, option_and_then, slice_get}
use Rattle.std.specs.Option.{option_map_or, option_or}
use Rattle.std.specs.List.{position_from, range_with_len}
use Rattle.anb_base.specs.declared.TheConstants.{ARRIVAL}
use Rattle.anb_base.specs.declared.content.Sent.{Sent}
use Rattle.anb_term.specs.Tree.{Tree}
use Rattle.anb_plays.specs.Plays.{Played, End, stopped, done, ends}
use Rattle.anb_code.specs.CodeValue.{CodeValue}
use Rattle.anb_machine.specs.ByteRuns.{run_bytes}
use Rattle.anb_machine.specs.declared.turn.Halt.{Halt}
use Rattle.anb_protocol.specs.Choices.{first}
use Rattle.anb_protocol.specs.Names.{distinct}
use Rattle.anb_protocol.specs.Protocols.{ProtocolValue}
use Rattle.anb_protocol.specs.Texts.{atoms_in_each, known_by, known_terms}
use Rattle.anb_protocol.specs.Plays.{honest_bytes}
use Rattle.anb_protocol.specs.Schedules.{Turn, next_of, turn_of}
use Rattle.anb_outcomes.specs.declared.rehearsals.Report.{Report}
use Rattle.anb_honest.specs.declared.report.RehearseEnd.{RehearseEnd}
use Rattle.anb_honest.specs.declared.report.RehearseEnd.TheVariants.{AllDone, Part, Stopped, LongMessage}

-- a protocol, the codes of its roles in order, values for the names that occur in some role's
-- knowledge, and a seed
pub record Cast : Type 0 where
  pub protocol : ProtocolValue
  pub codes : List CodeValue
  pub values : List (List ℕ)
  pub seed : List ℕ

abbrev pub cast : ProtocolValue → List CodeValue → List (List ℕ) → List ℕ → Cast
cast p codes values seed = record { protocol = p; codes = codes; values = values; seed = seed }

-- ---- initial values

-- the atoms that occur in some role's knowledge, in the order in which they first do
abbrev pub known_atoms : ProtocolValue → List ℕ
known_atoms p = distinct nat_eq (atoms_in_each (known_terms p))

-- the value of such an atom: the values stand in the order of these
abbrev pub given : Cast → ℕ → List ℕ
given c a =
    unwrap_or (option_and_then (slice_get c.values)
    (position_from (λ b. b == a) 0 (known_atoms c.protocol))) []

abbrev pub given_bytes : Cast → Tree → List ℕ
given_bytes c t = honest_bytes c.protocol (given c) t

-- the initial values of a role: the honest bytes of what it knows
abbrev pub init_of : Cast → ℕ → List (List ℕ)
init_of c role = map (given_bytes c) (known_by c.protocol role)

abbrev pub is_long : List ℕ → Bool
is_long bytes = nat_lt ARRIVAL (length bytes)

-- the first message or initial value that is longer than an arrival may be ends the joint run; an
-- initial value has the action 0
abbrev pub long_end : ℕ → List ℕ → Option RehearseEnd
long_end action bytes = if is_long bytes then Some (LongMessage action (length bytes)) else None

-- ---- what was done

-- a turn that was taken, and its message: the one that the role reported, or the one that it was
-- handed
pub record Move : Type 0 where
  pub turn : Turn
  pub bytes : List ℕ

abbrev pub turns_of : List Move → List Turn
turns_of moves = map (λ (m : Move). m.turn) moves

abbrev pub bytes_of : List Move → List (List ℕ)
bytes_of moves = map (λ (m : Move). m.bytes) moves

abbrev pub is_report : ℕ → Move → Bool
is_report role m = (m.turn.role == role) && m.turn.sends

abbrev pub is_receipt : ℕ → Move → Bool
is_receipt role m = (m.turn.role == role) && not m.turn.sends

-- the messages that a role reported, and those that it took
abbrev pub gave : List Move → ℕ → List (List ℕ)
gave moves role = bytes_of (filter (is_report role) moves)

abbrev pub took : List Move → ℕ → List (List ℕ)
took moves role = bytes_of (filter (is_receipt role) moves)

-- the message that this move reports of an action, if it does
abbrev pub told_by : Move → ℕ → Option (List ℕ)
told_by m action = if m.turn.sends && (m.turn.action == action) then Some m.bytes else None

-- the message that was reported of an action, which is one at most
abbrev pub told : List Move → ℕ → Option (List ℕ)
told [] action = None
told (m ∷ moves) action = option_or (told moves action) (told_by m action)

-- the turns that were taken, and how many were passed over
pub record Course : Type 0 where
  pub moves : List Move
  pub passed : ℕ

abbrev pub outset : Course
outset = record { moves = []; passed = 0 }

abbrev pub passes : Course → Course
passes s = record s { passed = s.passed + 1 }

abbrev pub moves_on : Course → Turn → List ℕ → Course
moves_on s t bytes = record s { moves = s.moves ++ record { turn = t; bytes = bytes } ∷ [] }

-- ---- where the roles stand

-- how a run stopped, where it did and none of these messages is left
abbrev pub halt_behind : List (List ℕ) → End → Option Halt
halt_behind [] (stopped e at) = Some (record { event = e; at = at })
halt_behind messages end = None

module _ (c : Cast) where
  -- the run of a role's code, over some arrivals and over what the role took
  abbrev pub run_over : ℕ → List (List ℕ) → Played (List ℕ)
  run_over role arrivals =
      option_map_or
      (λ (code : CodeValue). run_bytes code (init_of c role) c.seed role arrivals)
      (slice_get c.codes role) (ends done [])

  abbrev pub run_of : List Move → ℕ → Played (List ℕ)
  run_of moves role = run_over role (took moves role)

  -- its messages that the role did not report yet
  abbrev pub unreported : List Move → ℕ → List (List ℕ)
  unreported moves role = drop (length (gave moves role)) (run_of moves role).sent

  -- how a role's run stopped; a role is stuck where it did and each message of it was reported
  abbrev pub stuck : List Move → ℕ → Option Halt
  stuck moves role = halt_behind (unreported moves role) (run_of moves role).end

  -- ---- a turn

  -- the message of a taken turn: the next one of the role's run, or the reported one
  abbrev pub message_of : List Move → Turn → Option (List ℕ)
  message_of moves t =
      if t.sends then slice_get (unreported moves t.role) 0 else told moves t.action

  -- the end that it makes
  abbrev pub end_at : List Move → Turn → Option RehearseEnd
  end_at moves t =
      option_or (option_map (Stopped t.role) (stuck moves t.role))
      (if t.sends then option_and_then (long_end t.action) (message_of moves t) else None)

  -- what it leaves
  abbrev pub after : Course → Turn → Course
  after s t = option_map_or (moves_on s t) (message_of s.moves t) s

  -- ---- the end

  -- no role has an action left
  abbrev pub is_complete : List Turn → ℕ → Bool
  is_complete taken zero = true
  is_complete taken (suc n) = is_complete taken n && is_none (next_of c.protocol taken n)

  abbrev pub reported : (ℕ → Option (List ℕ)) → ℕ → Option Sent
  reported messages action =
      option_map (λ bytes. record { action = action; bytes = bytes }) (messages action)

  -- the messages in the order of the actions
  abbrev pub all_reported : (ℕ → Option (List ℕ)) → List Sent
  all_reported messages =
      filter_map (reported messages) (range_with_len 1 (length c.protocol.actions))

  abbrev pub report : Course → Report
  report s = record {
    turns = length s.moves + s.passed;
    taken = length s.moves;
    passed = s.passed;
    sent = all_reported (told s.moves);
  }

  abbrev pub roles_of : List ℕ
  roles_of = range_with_len 0 (length c.protocol.roles)

  -- after the last turn: the first role that is stuck, or the report
  abbrev pub end_behind : Course → RehearseEnd
  end_behind s =
      unwrap_or (first (λ role. option_map (Stopped role) (stuck s.moves role)) roles_of)
      (if is_complete (turns_of s.moves) (length c.protocol.roles) then AllDone (report s)
      else Part (report s))

  -- ---- all turns

  -- the turn of a role is taken or passed over, and then come the others
  abbrev pub turn_with : Course → Option Turn → (Course → RehearseEnd) → RehearseEnd
  turn_with s None others = others (passes s)
  turn_with s (Some t) others = unwrap_or (end_at s.moves t) (others (after s t))

  abbrev pub walk : Course → List ℕ → RehearseEnd
  walk s [] = end_behind s
  walk s (role ∷ turns) =
      turn_with s (turn_of c.protocol (turns_of s.moves) role) (λ next. walk next turns)

  -- the end of the joint run
  abbrev pub joint : List ℕ → RehearseEnd
  joint turns =
      unwrap_or (first (λ t. long_end 0 (given_bytes c t)) (known_terms c.protocol))
      (walk outset turns)
