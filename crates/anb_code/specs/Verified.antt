-- What is known of a code that was verified.
use Rattle.std.specs.Prelude.{◌≡◌, ◌≢◌, ℕ, ◌+◌, ◌<◌, ◌≤◌, ◌^◌, List, [], ◌∷◌, ◌++◌, length, All, sum_by, slice_get, Some}
use Rattle.std.specs.List.{AllByRecursion}
use Rattle.anb_format.specs.Formats.{FormatValue, IsSound, field_count}
use Rattle.anb_code.specs.declared.instr.Instr.{Instr}
use Rattle.anb_code.specs.declared.instr.Instr.TheVariants.{Take, Build, Parse}
use Rattle.anb_code.specs.CodeValue.{CodeValue}
use Rattle.anb_code.specs.Registers.{operands, count_written, register_widths}

-- P holds of each item, with the items before it
abbrev pub EachAfter : {A : Type 0} → (List A → A → Type 0) → List A → List A → Type 0
EachAfter P before [] = Unit {0}
EachAfter P before (x ∷ xs) = P before x × EachAfter P (before ++ x ∷ []) xs

-- at most 64 formats, each with at most 32 fields, sound and with a name of its own
pub record IsFormatAfter (before : List FormatValue) (format : FormatValue) : Type 0 where
  pub few : length before < 64
  pub fields : field_count format.pieces ≤ 32
  pub new : AllByRecursion (λ (earlier : FormatValue). earlier.name ≢ format.name) before
  pub sound : IsSound format.pieces

-- a take of another text
abbrev pub IsOtherTake : List ℕ → Instr → Type 0
IsOtherTake text (Take other) = other ≢ text
IsOtherTake text instr = ⊥

-- before a take there are only takes of other texts
abbrev pub IsTakeAfter : List Instr → Instr → Type 0
IsTakeAfter before (Take text) = AllByRecursion (IsOtherTake text) before
IsTakeAfter before instr = Unit {0}

-- a format that is named is there, and a build has one operand per field
abbrev pub HasItsFormat : List FormatValue → Instr → Type 0
HasItsFormat formats (Build f rs) = (format : FormatValue) × (slice_get formats f ≡ Some format) × (length rs ≡ field_count format.pieces)
HasItsFormat formats (Parse f r) = (format : FormatValue) × (slice_get formats f ≡ Some format)
HasItsFormat formats instr = Unit {0}

-- how many registers some instructions write
abbrev pub count_registers : List FormatValue → List Instr → ℕ
count_registers formats instrs = sum_by (count_written formats) instrs

pub record IsInstrAfter (formats : List FormatValue) (before : List Instr) (instr : Instr) : Type 0 where
  pub take : IsTakeAfter before instr
  pub format : HasItsFormat formats instr
  pub written : All (λ r. r < count_registers formats before) (operands instr)

pub record IsVerifiedCode (arrival wide : ℕ) (code : CodeValue) : Type 0 where
  pub formats : EachAfter IsFormatAfter [] code.formats
  pub instrs : EachAfter (IsInstrAfter code.formats) [] code.instrs
  pub narrow : All (λ width. width ≤ wide) (register_widths arrival code.formats code.instrs)
  pub few_instrs : length code.instrs + 1 < 2 ^ 32
  pub few_registers : count_registers code.formats code.instrs + 1 < 2 ^ 32
