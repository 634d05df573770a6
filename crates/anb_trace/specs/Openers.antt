-- What else opens bytes that were sealed or wrapped: another key of the role, or another context.
use Rattle.std.specs.Prelude.{ℕ, zero, suc, ◌==◌, ◌&&◌, Bool, false, List, [], ◌∷◌, length, Option, Some, None, is_some, if◌then◌else◌}
use Rattle.std.specs.Option.{option_map_or, option_or}
use Rattle.std.specs.List.{list_any}
use Rattle.anb_term.specs.declared.term.Op.{Op}
use Rattle.anb_term.specs.declared.term.Op.TheVariants as op
use Rattle.anb_plays.specs.Codes.{undo}
use Rattle.anb_plays.specs.Exec.{worked}
use Rattle.anb_code.specs.declared.instr.Instr.{Instr}
use Rattle.anb_code.specs.declared.instr.Instr.TheVariants.{Mac, Seal, Unseal, Wrap, Unwrap}
use Rattle.anb_code.specs.CodeValue.{CodeValue}
use Rattle.anb_machine.specs.ByteRuns.{meaning_of}

-- the register that an instruction uses as a key
abbrev pub key_of : Instr → Option ℕ
key_of (Mac k b) = Some k
key_of (Seal k b) = Some k
key_of (Unseal k c) = Some k
key_of (Wrap k d b) = Some k
key_of (Unwrap k d c) = Some k
key_of instr = None

-- the register that an instruction uses as a context
abbrev pub context_of : Instr → Option ℕ
context_of (Wrap k d b) = Some d
context_of (Unwrap k d c) = Some d
context_of instr = None

-- whether one of these instructions uses a register so
abbrev pub is_used : (Instr → Option ℕ) → List Instr → ℕ → Bool
is_used operand instrs r = list_any (λ instr. option_map_or (λ k. k == r) (operand instr) false) instrs

-- whether the bytes of a register open with these, as a run opens them
abbrev pub opens : CodeValue → List (List ℕ) → Op → List ℕ → ℕ → Bool
opens code table o keys c = is_some (worked (meaning_of code) table (undo o keys c))

-- the first number below one that passes
abbrev pub first_below : (ℕ → Bool) → ℕ → Option ℕ
first_below p zero = None
first_below p (suc n) = option_or (first_below p n) (if p n then Some n else None)

-- the first key so far of those that the code uses anywhere that unseals a register
unfoldable pub seal_key : CodeValue → List (List ℕ) → (c : ℕ) → Option ℕ
seal_key code table c = first_below (λ r. is_used key_of code.instrs r && opens code table op.Seal (r ∷ []) c) (length table)

-- the first one that unwraps a register, with a context
unfoldable pub wrap_key : CodeValue → List (List ℕ) → (d c : ℕ) → Option ℕ
wrap_key code table d c = first_below (λ r. is_used key_of code.instrs r && opens code table op.Wrap (r ∷ d ∷ []) c) (length table)

-- the first context so far of those that the code uses anywhere with which a key unwraps a register
unfoldable pub wrap_context : CodeValue → List (List ℕ) → (k c : ℕ) → Option ℕ
wrap_context code table k c = first_below (λ r. is_used context_of code.instrs r && opens code table op.Wrap (k ∷ r ∷ []) c) (length table)
