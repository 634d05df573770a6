-- for proofs alone: roles and a joint run on their way, by what is kept of them.
use Rattle.std.specs.Prelude.{◌≡◌, ℕ, ◌+◌, ◌≤◌, ◌==◌, List, [], ◌∷◌, ◌++◌, length, map, drop, count_by, Bool, true, false, Option, Some, None, IfSome, slice_get, option_map}
use Rattle.std.specs.Option.{option_or}
use Rattle.anb_base.specs.declared.TheConstants.{ARRIVAL}
use Rattle.anb_base.specs.declared.content.Sent.{Sent}
use Rattle.anb_plays.specs.Plays.{Played, SendsFirst}
use Rattle.anb_machine.specs.Machines.{gives}
use Rattle.anb_protocol.specs.Plans.{PlanEvent, to_know, to_make, to_send, to_receive}
use Rattle.anb_protocol.specs.Schedules.{Turn, parts_of, turn_of}
use Rattle.anb_honest.specs.declared.player.Part.{Part}
use Rattle.anb_honest.specs.declared.player.Player.{Player}
use Rattle.anb_honest.specs.declared.stage.Stage.{Stage}
use Rattle.anb_honest.specs.Acting.{KeepsOrder, halt_of}
use Rattle.anb_honest.specs.declared.report.RehearseEnd.{RehearseEnd}
use Rattle.anb_honest.specs.declared.report.RehearseEnd.TheVariants.{Stopped}
use Rattle.anb_honest.specs.Joint.{Cast, Course, Move, took, gave, told, turns_of, run_over, turn_with}

-- what an event has a role do at an action
abbrev pub part_of : ℕ → PlanEvent → Option Turn
part_of role (to_know t) = None
part_of role (to_make t) = None
part_of role (to_send action t) = Some (record { role = role; action = action; sends = true })
part_of role (to_receive action t) = Some (record { role = role; action = action; sends = false })

abbrev pub turn_value : ℕ → Part → Turn
turn_value role part = record { role = role; action = part.action; sends = part.sends }

abbrev pub turn_at : ℕ → ℕ → Bool → Turn
turn_at role action sends = record { role = role; action = action; sends = sends }

-- a role after these moves
pub record IsPlayer (c : Cast) (moves : List Move) (role : ℕ) (player : Player) : Type 0 where
  pub parts : map (turn_value role) player.parts.items ≡ parts_of c.protocol role
  pub done : player.done ≡ count_by (λ (t : Turn). t.role == role) (turns_of moves)
  pub within : player.done ≤ length player.parts.items
  pub comes : (more : List (List ℕ)) → SendsFirst (run_over c role (took moves role ++ more)) (gave moves role) (gives player.machine more)
  pub order : KeepsOrder (drop player.done (parts_of c.protocol role)) (gives player.machine)

abbrev pub IsShort : Option (List ℕ) → Type 0
IsShort message = IfSome message (λ b. length b ≤ ARRIVAL)

-- a joint run after this course
pub record Stands (c : Cast) (s : Course) (stage : Stage) : Type 0 where
  pub roles : length c.protocol.roles ≤ 32
  pub actions : length c.protocol.actions ≤ 256
  pub count : length stage.players.items ≡ length c.protocol.roles
  pub players : (role : ℕ) → IfSome (slice_get stage.players.items role) (IsPlayer c s.moves role)
  pub slots : length stage.told.items ≡ length c.protocol.actions
  pub told : (k : ℕ) → IfSome (slice_get stage.told.items k) (λ slot. slot ≡ told s.moves (k + 1))
  pub short : (k : ℕ) → IfSome (slice_get stage.told.items k) IsShort
  pub taken : stage.taken ≡ length s.moves
  pub passed : stage.passed ≡ s.passed

abbrev pub IsStage : Stage → Type 0
IsStage stage = (c : Cast) × (s : Course) × Stands c s stage

-- and this is the role's next turn
pub record IsAtTurn (stage : Stage) (t : Turn) : Type 0 where
  pub cast : Cast
  pub course : Course
  pub stands : Stands cast course stage
  pub due : turn_of cast.protocol (turns_of course.moves) t.role ≡ Some t

-- the joint run goes on from this course
pub record GoesOn (c : Cast) (s : Course) (t : Option Turn) (stage : Stage) : Type 0 where
  pub next : Course
  pub stands : Stands c next stage
  pub on : (others : Course → RehearseEnd) → turn_with c s t others ≡ others next
  pub counted : length next.moves + next.passed ≡ length s.moves + s.passed + 1

-- what a turn makes of it
abbrev pub Takes : Cast → Course → Option Turn → Stage → Option RehearseEnd → Type 0
Takes c s t stage None = GoesOn c s t stage
Takes c s t stage (Some end) = (others : Course → RehearseEnd) → turn_with c s t others ≡ end

-- the end that the first role makes that is stuck
abbrev pub first_stopped : ℕ → List Player → Option RehearseEnd
first_stopped role [] = None
first_stopped role (player ∷ players) = option_or (option_map (Stopped role) (halt_of player)) (first_stopped (role + 1) players)

-- the messages that are there, numbered from here
abbrev pub sent_from : ℕ → List (Option (List ℕ)) → List Sent
sent_from action [] = []
sent_from action (None ∷ slots) = sent_from (action + 1) slots
sent_from action (Some bytes ∷ slots) = record { action = action; bytes = bytes } ∷ sent_from (action + 1) slots
