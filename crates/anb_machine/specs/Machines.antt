-- What a machine is, and what a turn says of it.
use Rattle.std.specs.Prelude.{◌≡◌, ℕ, ◌<◌, ◌≤◌, ◌+◌, List, [], ◌∷◌, length, map, take, if◌then◌else◌, Bool, true, false, Option, Some, None}
use Rattle.anb_base.specs.declared.content.Suite.{Suite}
use Rattle.anb_format.specs.Formats.{FormatValue}
use Rattle.anb_seal.specs.Streams.{draw_of}
use Rattle.anb_algebra.specs.ByteMeaning.{byte_meaning}
use Rattle.anb_plays.specs.Plays.{Played, End, stopped, waiting, done, ends, says}
use Rattle.anb_plays.specs.Exec.{exec}
use Rattle.anb_code.specs.CodeValue.{CodeValue}
use Rattle.anb_code.specs.declared.instr.Instr.{Instr}
use Rattle.anb_code.specs.Meaning.{act_of}
use Rattle.anb_code.specs.Uses.{is_read}
use Rattle.anb_format.specs.Laws.{AreWithin}
use Rattle.anb_machine.specs.declared.turn.Last.{Last}
use Rattle.anb_machine.specs.declared.turn.Last.TheVariants as last
use Rattle.anb_machine.specs.declared.turn.Turn.{Turn}
use Rattle.anb_machine.specs.declared.turn.Turn.TheVariants.{Message, Wants, Done, Stopped, NoMemory}

-- the code, its formats and its suite, the session's draws, the instructions to come, the widths of all registers, the values of those
-- written so far, the numbers of sends and receives, of instructions and of draws so far, and what the last turn leaves
pub record MachineValue : Type 0 where
  pub code : CodeValue
  pub formats : List FormatValue
  pub suite : Suite
  pub seed : List ℕ
  pub session : ℕ
  pub instrs : List Instr
  pub widths : List ℕ
  pub registers : List (List ℕ)
  pub event : ℕ
  pub at : ℕ
  pub drawn : ℕ
  pub last : Last

-- what a machine gives that is over gives no more
abbrev pub unless_over : Last → Played (List ℕ) → List (List ℕ) → Played (List ℕ)
unless_over last.Done coming arrivals = ends done arrivals
unless_over (last.Stopped halt) coming arrivals = ends (stopped halt.event halt.at) arrivals
unless_over _ coming arrivals = coming

-- all that a machine still gives, over further arrivals
abbrev pub gives : MachineValue → List (List ℕ) → Played (List ℕ)
gives v arrivals = unless_over v.last (exec (byte_meaning v.formats v.suite) (draw_of v.seed v.session) (map (act_of v.formats) v.instrs) v.registers v.event v.at v.drawn arrivals) arrivals

-- how many instructions are left
abbrev pub left : MachineValue → ℕ
left v = length v.instrs

-- the widths of the registers from r on, with 0 for each that none of these instructions reads
abbrev pub live_widths : List Instr → ℕ → List ℕ → List ℕ
live_widths instrs r [] = []
live_widths instrs r (width ∷ widths) = (if is_read instrs r then width else 0) ∷ live_widths instrs (r + 1) widths

-- of each register written so far no more is kept than its width, and nothing where no instruction to come reads it
abbrev pub KeepsLive : MachineValue → Type 0
KeepsLive v = AreWithin v.registers (live_widths v.instrs 0 (take (length v.registers) v.widths))

-- the last turn was `Wants`, and nothing was handed in since
abbrev pub waits_after : Last → Bool
waits_after last.Wants = true
waits_after _ = false

abbrev pub waits : MachineValue → Bool
waits v = waits_after v.last

-- the turn that comes from now on
abbrev pub answer_after : Last → Option Turn
answer_after last.Done = Some Done
answer_after (last.Stopped halt) = Some (Stopped halt)
answer_after last.NoMemory = Some NoMemory
answer_after _ = None

-- what a turn leaves
abbrev pub last_after : Turn → Last
last_after (Message b) = last.Open
last_after (Wants e) = last.Wants
last_after Done = last.Done
last_after (Stopped halt) = last.Stopped halt
last_after NoMemory = last.NoMemory

abbrev pub answer : MachineValue → Option Turn
answer v = answer_after v.last

-- the first turn of what is given: a message, or how it ends
abbrev pub first_turn : List (List ℕ) → End → Turn
first_turn (b ∷ bs) end = Message b
first_turn [] (waiting e) = Wants e
first_turn [] done = Done
first_turn [] (stopped e at) = Stopped (record { event = e; at = at })

abbrev pub turn_of : Played (List ℕ) → Turn
turn_of p = first_turn p.sent p.end

-- a machine in another state still gives the same
abbrev pub GiveSame : MachineValue → MachineValue → Type 0
GiveSame old new = (arrivals : List (List ℕ)) → gives old arrivals ≡ gives new arrivals

-- what a turn says of what the machine gave and gives: a message comes first, it waits with nothing before the arrival, or it is over
abbrev pub Turned : MachineValue → MachineValue → Turn → Type 0
Turned old new (Message b) = ((arrivals : List (List ℕ)) → gives old arrivals ≡ says b (gives new arrivals)) × (answer new ≡ None) × (left new < left old)
Turned old new (Wants e) = GiveSame old new × (gives new [] ≡ ends (waiting e) []) × (waits new ≡ true) × (left new ≤ left old)
Turned old new Done = GiveSame old new × ((arrivals : List (List ℕ)) → gives old arrivals ≡ ends done arrivals) × (answer new ≡ Some Done)
Turned old new (Stopped halt) = GiveSame old new × ((arrivals : List (List ℕ)) → gives old arrivals ≡ ends (stopped halt.event halt.at) arrivals) × (answer new ≡ Some (Stopped halt))
Turned old new NoMemory = answer new ≡ Some NoMemory
