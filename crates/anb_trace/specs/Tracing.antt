-- For proofs alone: where a trace under way stands.
use Rattle.std.specs.Prelude.{◌≡◌, ℕ, ◌+◌, ◌≤◌, List, [], ◌∷◌, ◌++◌, length, slice_get, Bool, true, false, Option, Some, None, if◌then◌else◌}
use Rattle.std.specs.Option.{option_map_or}
use Rattle.anb_seal.specs.Streams.{draw_of}
use Rattle.anb_term.specs.declared.term.Op.{Op}
use Rattle.anb_plays.specs.Codes.{Act, works}
use Rattle.anb_plays.specs.Plays.{stopped, waiting}
use Rattle.anb_plays.specs.Exec.{IsReady, worked}
use Rattle.anb_code.specs.declared.instr.Instr.{Instr}
use Rattle.anb_code.specs.Meaning.{act_of}
use Rattle.anb_explain.specs.Explanations.{AreOurs}
use Rattle.anb_machine.specs.ByteRuns.{meaning_of}
use Rattle.anb_machine.specs.Standing.{registers_of}
use Rattle.anb_trace.specs.declared.subject.Subject.{Subject}
use Rattle.anb_trace.specs.declared.steps.Standing.{Standing}
use Rattle.anb_trace.specs.declared.steps.Told.{Told}
use Rattle.anb_trace.specs.Words.{SubjectValue, bytes_line, event_line, instr_lines, subject_of, why}
use Rattle.anb_trace.specs.Traces.{Rest, end_line, told}

abbrev pub subject_in : Subject → SubjectValue
subject_in s = subject_of s.protocol.now s.code.now s.explanation.now

abbrev pub IsOurs : Subject → Type 0
IsOurs s = AreOurs s.protocol.now s.code.now s.explanation.now

-- what is said behind an instruction from where it stands
abbrev pub behind : Standing → Rest → List ℕ
behind s rest = rest s.registers.items s.events s.drawn s.arrivals.now

-- what was told of an instruction, the next of so many, and where it stands then; behind the last one nothing is said
abbrev pub Tells : SubjectValue → (seed : List ℕ) → (session : ℕ) → Instr → (first at : ℕ) → (old : Standing) → Told → (new : Standing) → Type 0
Tells s seed session instr first at old part new =
    (rest : Rest) → told s (draw_of seed session) (act_of s.code.formats instr) instr old.registers.items first old.events at old.drawn old.arrivals.now rest
    ≡ part.text.items ++ (if part.goes_on then behind new rest else [])

-- the counts are no further than the place
abbrev pub IsWithin : Standing → ℕ → Type 0
IsWithin s at = (s.events ≤ at) × (s.drawn ≤ at)

-- an act works on registers that were written
abbrev pub IsActReady : (Op → Bool) → ℕ → Act → Type 0
IsActReady has n (works w) = IsReady has n w
IsActReady has n act = Unit {0}

-- where it goes on, the act has written its registers
abbrev pub HasWritten : Act → (old : Standing) → Told → (new : Standing) → Type 0
HasWritten act old part new = part.goes_on ≡ true → length new.registers.items ≡ length old.registers.items + registers_of act

-- ---- by what an instruction does

pub record TellsDraw (s : SubjectValue) (seed : List ℕ) (session : ℕ) (instr : Instr) (first : ℕ) (old : Standing) (part : Told) (new : Standing) : Type 0 where
  pub goes_on : part.goes_on ≡ true
  pub text : part.text.items ≡ instr_lines s instr first (draw_of seed session old.drawn ∷ [])
  pub registers : new.registers.items ≡ old.registers.items ++ draw_of seed session old.drawn ∷ []
  pub events : new.events ≡ old.events
  pub drawn : new.drawn ≡ old.drawn + 1
  pub arrivals : new.arrivals.now ≡ old.arrivals.now

-- with an arrival, and without one
abbrev pub TellsArrival : SubjectValue → (arrivals : List (List ℕ)) → (old : Standing) → Told → (new : Standing) → Type 0
TellsArrival s [] old part new = (part.goes_on ≡ false) × (part.text.items ≡ event_line s.protocol s.plan old.events ++ end_line (waiting (old.events + 1)) [])
TellsArrival s (x ∷ arrivals) old part new =
    (part.goes_on ≡ true) × (part.text.items ≡ event_line s.protocol s.plan old.events ++ bytes_line x)
    × (new.registers.items ≡ old.registers.items ++ x ∷ []) × (new.arrivals.now ≡ arrivals)

abbrev pub TellsReceive : SubjectValue → (old : Standing) → Told → (new : Standing) → Type 0
TellsReceive s old part new = (new.events ≡ old.events + 1) × (new.drawn ≡ old.drawn) × TellsArrival s old.arrivals.now old part new

pub record TellsSend (s : SubjectValue) (register : ℕ) (old : Standing) (part : Told) (new : Standing) : Type 0 where
  pub goes_on : part.goes_on ≡ true
  pub text : part.text.items ≡ event_line s.protocol s.plan old.events ++ option_map_or bytes_line (slice_get old.registers.items register) []
  pub registers : new.registers.items ≡ old.registers.items
  pub events : new.events ≡ old.events + 1
  pub drawn : new.drawn ≡ old.drawn
  pub arrivals : new.arrivals.now ≡ old.arrivals.now

-- where the demand is true, and where it fails
abbrev pub TellsWritten : SubjectValue → Instr → (first at : ℕ) → (old : Standing) → Told → (new : Standing) → Option (List (List ℕ)) → Type 0
TellsWritten s instr first at old part new None =
    (part.goes_on ≡ false) × (part.text.items ≡ instr_lines s instr first [] ++ end_line (stopped old.events (at + 1)) (why s old.registers.items instr))
TellsWritten s instr first at old part new (Some values) =
    (part.goes_on ≡ true) × (part.text.items ≡ instr_lines s instr first values) × (new.registers.items ≡ old.registers.items ++ values)

abbrev pub TellsWork : SubjectValue → Act → Instr → (first at : ℕ) → (old : Standing) → Told → (new : Standing) → Type 0
TellsWork s (works w) instr first at old part new =
    (new.events ≡ old.events) × (new.drawn ≡ old.drawn) × (new.arrivals.now ≡ old.arrivals.now)
    × TellsWritten s instr first at old part new (worked (meaning_of s.code) old.registers.items w)
TellsWork s act instr first at old part new = ⊥
