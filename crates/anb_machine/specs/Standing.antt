-- Where a run under way stands, and what it keeps.
use Rattle.std.specs.Prelude.{◌≡◌, ℕ, ◌+◌, ◌<◌, ◌≤◌, ◌^◌, List, [], ◌∷◌, ◌++◌, length, map, drop, Bool, Option, Some, None, option_map, vec_capacity, if◌then◌else◌}
use Rattle.anb_base.specs.declared.TheConstants.{WIDE}
use Rattle.anb_term.specs.declared.term.Op.{Op}
use Rattle.anb_term.specs.Value.{Meaning}
use Rattle.anb_format.specs.Formats.{FormatValue}
use Rattle.anb_seal.specs.Streams.{draw_of}
use Rattle.anb_algebra.specs.ByteMeaning.{byte_meaning, has_operator}
use Rattle.anb_plays.specs.Plays.{Played, stopped, done, ends, says}
use Rattle.anb_plays.specs.Codes.{Act, takes, draws, receives, sends, works}
use Rattle.anb_plays.specs.Exec.{exec, worked, IsReady, IsVerified, count_written}
use Rattle.anb_code.specs.declared.instr.Instr.{Instr}
use Rattle.anb_code.specs.Meaning.{act_of}
use Rattle.anb_machine.specs.declared.state.RunState.{RunState}
use Rattle.anb_machine.specs.declared.turn.Turn.{Turn}
use Rattle.anb_machine.specs.declared.turn.Turn.TheVariants.{Message, Wants, Done, Stopped, NoMemory}

-- the acts from this instruction on
abbrev pub acts_from : List FormatValue → List Instr → ℕ → List Act
acts_from formats instrs next = map (act_of formats) (drop next instrs)

abbrev pub acts_left : RunState → List Act
acts_left s = acts_from s.algebra.formats s.code.now.instrs s.next

-- how many registers acts write
abbrev pub registers_of : Act → ℕ
registers_of takes = 0
registers_of draws = 1
registers_of receives = 1
registers_of (sends n) = 0
registers_of (works w) = count_written w

abbrev pub registers_in : List Act → ℕ
registers_in [] = 0
registers_in (act ∷ acts) = registers_of act + registers_in acts

-- what comes over further arrivals
abbrev pub coming : RunState → List (List ℕ) → Played (List ℕ)
coming s arrivals = exec (byte_meaning s.algebra.formats s.algebra.suite) (draw_of s.seed s.session) (acts_left s) s.registers.items s.event s.next s.drawn arrivals

-- its instructions are ready, it is in the code, its counts are no further than its place, and its table has room for what is to be written
pub record IsKept (s : RunState) : Type 0 where
  pub formats : s.algebra.formats ≡ s.code.now.formats
  pub suite : s.algebra.suite ≡ s.code.now.suite
  pub within : s.next ≤ length s.code.now.instrs
  pub few : length s.code.now.instrs + 1 < 2 ^ 32
  pub events : s.event ≤ s.next
  pub draws : s.drawn ≤ s.next
  pub verified : IsVerified (has_operator s.algebra.formats) (acts_left s) (length s.registers.items)
  pub room : length s.registers.items + registers_in (acts_left s) ≤ vec_capacity s.registers

-- the code, its formats and the draws stay
pub record IsSameRun (s t : RunState) : Type 0 where
  pub algebra : t.algebra ≡ s.algebra
  pub code : t.code.now ≡ s.code.now
  pub seed : t.seed ≡ s.seed
  pub session : t.session ≡ s.session

-- the acts after the next one
abbrev pub acts_after : RunState → List Act
acts_after s = acts_from s.algebra.formats s.code.now.instrs (s.next + 1)

-- the next instruction is there, and does this
pub record IsNext (s : RunState) (act : Act) : Type 0 where
  pub within : s.next < length s.code.now.instrs
  pub acts : acts_left s ≡ act ∷ acts_after s

abbrev pub IsWork : Act → Type 0
IsWork (works w) = Unit {0}
IsWork _ = ⊥

abbrev pub AtReceive : List Act → Type 0
AtReceive (receives ∷ acts) = Unit {0}
AtReceive _ = ⊥

abbrev pub ComesSame : RunState → RunState → Type 0
ComesSame s t = (arrivals : List (List ℕ)) → coming s arrivals ≡ coming t arrivals

-- what a turn says of where the run stood and stands
abbrev pub TurnsTo : RunState → RunState → Turn → Type 0
TurnsTo s t (Message b) = ((arrivals : List (List ℕ)) → coming s arrivals ≡ says b (coming t arrivals)) × (s.next < t.next)
TurnsTo s t (Wants e) = ComesSame s t × AtReceive (acts_left t) × (e ≡ t.event + 1) × (s.next ≤ t.next)
TurnsTo s t Done = (arrivals : List (List ℕ)) → coming s arrivals ≡ ends done arrivals
TurnsTo s t (Stopped halt) = (arrivals : List (List ℕ)) → coming s arrivals ≡ ends (stopped halt.event halt.at) arrivals
TurnsTo s t NoMemory = Unit {0}

-- a message, where there is one, is no wider than a register
abbrev pub IsNarrowTurn : Option Turn → Type 0
IsNarrowTurn (Some (Message b)) = length b ≤ WIDE
IsNarrowTurn turn = Unit {0}

-- the same of one instruction, where None says that it goes on
abbrev pub StepsTo : RunState → RunState → Option Turn → Type 0
StepsTo s t None = ComesSame s t × (t.next ≡ s.next + 1)
StepsTo s t (Some turn) = TurnsTo s t turn

-- ---- works

-- an act is a work whose registers were written
abbrev pub IsWorkReady : (Op → Bool) → ℕ → Act → Type 0
IsWorkReady has n (works w) = IsReady has n w
IsWorkReady has n act = ⊥

-- it was done, where its demand is true, and the table has what it writes
abbrev pub IsWorkDone : {A : Type 0} → Meaning A → List A → Act → Bool → List A → Type 0
IsWorkDone m table (works w) went new = option_map (λ ws. table ++ ws) (worked m table w) ≡ (if went then Some new else None)
IsWorkDone m table act went new = ⊥
