-- For proofs alone: what a run keeps of its registers, the bytes of those that a later instruction reads.
use Rattle.std.specs.Prelude.{◌≡◌, ℕ, ◌+◌, ◌≤◌, ◌&&◌, ◌||◌, not, nat_le, nat_lt, if◌then◌else◌, Bool, List, [], ◌∷◌, ◌++◌, length, drop, get_or, slice_index, All, ◌⊎◌}
use Rattle.anb_base.specs.declared.TheConstants.{ARRIVAL, WIDE}
use Rattle.anb_format.specs.Formats.{FormatValue}
use Rattle.anb_format.specs.Laws.{AreWithin}
use Rattle.anb_code.specs.declared.instr.Instr.{Instr}
use Rattle.anb_code.specs.declared.instr.Instr.TheVariants.{Take}
use Rattle.anb_code.specs.Registers.{operands, register_widths, written_widths}
use Rattle.anb_code.specs.Uses.{is_among, is_read}
use Rattle.anb_machine.specs.declared.state.RunState.{RunState}

-- the instructions from the next one on
abbrev pub instrs_left : RunState → List Instr
instrs_left s = drop s.next s.code.now.instrs

-- the widths of what an instruction writes in a run: the registers of takes are written before
abbrev pub new_widths : List FormatValue → List ℕ → Instr → List ℕ
new_widths formats widths (Take text) = []
new_widths formats widths instr = written_widths ARRIVAL formats widths instr

abbrev pub later_widths : List FormatValue → List ℕ → List Instr → List ℕ
later_widths formats widths [] = widths
later_widths formats widths (instr ∷ instrs) = later_widths formats (widths ++ new_widths formats widths instr) instrs

-- each register has at most its width
abbrev pub IsBound : List (List ℕ) → List ℕ → Type 0
IsBound table widths = (r : ℕ) → length (get_or table r []) ≤ slice_index widths r

-- each register has at most its width, and nothing where no instruction to come reads it
abbrev pub IsLive : List Instr → List (List ℕ) → List ℕ → Type 0
IsLive instrs table widths = (r : ℕ) → length (get_or table r []) ≤ (if is_read instrs r then slice_index widths r else 0)

-- the registers so far have the first of the code's widths, and no more than that
pub record IsLean (s : RunState) : Type 0 where
  pub widths : List ℕ
  pub count : length widths ≡ length s.registers.items
  pub live : IsLive (instrs_left s) s.registers.items widths
  pub later : later_widths s.code.now.formats widths (instrs_left s) ≡ register_widths ARRIVAL s.code.now.formats s.code.now.instrs
  pub narrow : All (λ width. width ≤ WIDE) (register_widths ARRIVAL s.code.now.formats s.code.now.instrs)

-- those of these registers that no instruction to come reads are empty now, and the others stay
pub record AreDropped (instrs : List Instr) (among : ℕ → Bool) (old new : List (List ℕ)) : Type 0 where
  pub count : length new ≡ length old
  pub each : (r : ℕ) → get_or new r [] ≡ (if among r && not (is_read instrs r) then [] else get_or old r [])

-- the same by how long each register is read
pub record AreOver (last_uses : List ℕ) (done : ℕ) (among : ℕ → Bool) (old new : List (List ℕ)) : Type 0 where
  pub count : length new ≡ length old
  pub each : (r : ℕ) → get_or new r [] ≡ (if among r && not (nat_lt done (slice_index last_uses r)) then [] else get_or old r [])

-- nothing was done, or the next instruction, which wrote within its widths
abbrev pub HasStayed : RunState → RunState → Type 0
HasStayed s t = (t.next ≡ s.next) × (t.registers.items ≡ s.registers.items)

abbrev pub WritesWithin : RunState → List (List ℕ) → Type 0
WritesWithin s ws = (instr : Instr) (widths : List ℕ) → drop s.next s.code.now.instrs ≡ instr ∷ drop (s.next + 1) s.code.now.instrs
    → IsBound s.registers.items widths → All (λ width. width ≤ WIDE) widths → length widths ≡ length s.registers.items
    → AreWithin ws (new_widths s.code.now.formats widths instr)

pub record HasMoved (s t : RunState) : Type 0 where
  pub next : t.next ≡ s.next + 1
  pub wrote : List (List ℕ)
  pub table : t.registers.items ≡ s.registers.items ++ wrote
  pub within : WritesWithin s wrote

abbrev pub HasGone : RunState → RunState → Type 0
HasGone s t = HasStayed s t ⊎ HasMoved s t

-- the registers that are looked at after an instruction: its operands, and those from one on
abbrev pub thinned_by : Instr → ℕ → ℕ → Bool
thinned_by x from r = is_among (operands x) r || nat_le from r

-- only registers that no instruction to come reads were dropped
pub record IsThinned (among : ℕ → Bool) (s t : RunState) : Type 0 where
  pub next : t.next ≡ s.next
  pub event : t.event ≡ s.event
  pub drawn : t.drawn ≡ s.drawn
  pub dropped : AreDropped (instrs_left s) among s.registers.items t.registers.items
