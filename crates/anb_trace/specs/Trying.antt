-- For proofs alone: what is tried on bytes that don't open.
use Rattle.std.specs.Prelude.{◌≡◌, ℕ, ◌<◌, ◌&&◌, Bool, List, [], ◌∷◌, length, slice_index_or, Option, Some, None, if◌then◌else◌}
use Rattle.anb_term.specs.declared.term.Op.TheVariants as op
use Rattle.anb_code.specs.declared.instr.Instr.{Instr}
use Rattle.anb_code.specs.CodeValue.{CodeValue}
use Rattle.anb_trace.specs.declared.openers.Trial.{Trial}
use Rattle.anb_trace.specs.declared.openers.Trial.TheVariants.{SealKeys, WrapKeys, WrapContexts}
use Rattle.anb_trace.specs.Openers.{context_of, is_used, key_of, opens}

-- the register of an instruction that a trial takes
abbrev pub use_of : Trial → Instr → Option ℕ
use_of (SealKeys c) instr = key_of instr
use_of (WrapKeys d c) instr = key_of instr
use_of (WrapContexts k c) instr = context_of instr

-- whether a register opens the bytes of a trial
abbrev pub opens_with : CodeValue → List (List ℕ) → Trial → ℕ → Bool
opens_with code table (SealKeys c) r = opens code table op.Seal (r ∷ []) c
opens_with code table (WrapKeys d c) r = opens code table op.Wrap (r ∷ d ∷ []) c
opens_with code table (WrapContexts k c) r = opens code table op.Wrap (k ∷ r ∷ []) c

-- whether it is one of those that are tried, and opens them
abbrev pub is_opener : CodeValue → List (List ℕ) → Trial → ℕ → Bool
is_opener code table trial r = is_used (use_of trial) code.instrs r && opens_with code table trial r

-- for each of so many registers, its number where one of these instructions uses it so
pub record IsMarked (operand : Instr → Option ℕ) (instrs : List Instr) (count : ℕ) (marks : List (Option ℕ)) : Type 0 where
  pub sized : length marks ≡ count
  pub each : (r : ℕ) → r < count → slice_index_or marks r None ≡ (if is_used operand instrs r then Some r else None)
