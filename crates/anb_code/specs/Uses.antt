-- Which registers instructions read, and how long a register is still to be read.
use Rattle.std.specs.Prelude.{◌≡◌, ℕ, ◌==◌, nat_lt, if◌then◌else◌, Bool, List, length, drop, slice_index}
use Rattle.std.specs.List.{list_any}
use Rattle.anb_format.specs.Formats.{FormatValue}
use Rattle.anb_code.specs.declared.instr.Instr.{Instr}
use Rattle.anb_code.specs.Registers.{operands}
use Rattle.anb_code.specs.Verified.{count_registers}

-- whether this register is one of these
abbrev pub is_among : List ℕ → ℕ → Bool
is_among registers r = list_any (λ register. register == r) registers

-- whether one of these instructions reads a register
abbrev pub is_read : List Instr → ℕ → Bool
is_read instrs r = list_any (λ instr. is_among (operands instr) r) instrs

-- for each register in order, how many instructions there are up to the last that reads it, and 0
-- where none does. So what is left after n instructions reads it exactly where n is below that
pub record AreLastUses (formats : List FormatValue) (instrs : List Instr) (uses : List ℕ) : Type 0 where
  pub count : length uses ≡ count_registers formats instrs
  pub last : (r n : ℕ) → nat_lt n (slice_index uses r) ≡ is_read (drop n instrs) r

-- ---- for proofs alone

-- these registers have this number now, and the others stay
pub record AreMarked (at : ℕ) (registers old new : List ℕ) : Type 0 where
  pub count : length new ≡ length old
  pub each : (r : ℕ) → slice_index new r ≡ (if is_among registers r then at else slice_index old r)
