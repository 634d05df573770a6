-- What a line is, and what is answered of the lines and of their labels and values.
use Rattle.std.specs.Prelude.{ℕ, List, Option, Some, None}
use Rattle.anb_values.specs.declared.refusal.ValuesNo.{ValuesNo}
use Rattle.anb_values.specs.declared.refusal.ValuesNo.TheVariants as refusal
use Rattle.anb_values.specs.declared.lines.Entry.{Entry}
use Rattle.anb_values.specs.declared.lines.Line.{Line}
use Rattle.anb_values.specs.declared.lines.Line.TheVariants as line
use Rattle.anb_values.specs.Fit.{BeginsWith}
use Rattle.anb_values.specs.Lines.{Says, IsFirstFaulty, lines_of}

abbrev pub IsLine : List ℕ → Line → Type 0
IsLine text line.PassedOver = Says text None
IsLine text (line.Entry entry) = Says text (Some entry)
IsLine text line.Faulty = (said : Option Entry) → Says text said → ⊥

-- this line is the first that isn't of the grammar, or no memory was left
abbrev pub IsFaulty : List ℕ → ValuesNo → Type 0
IsFaulty text (refusal.Line n) = IsFirstFaulty (lines_of text) n
IsFaulty text refusal.NoMemory = Unit {0}
IsFaulty text (refusal.Extra name) = ⊥
IsFaulty text (refusal.Twice name) = ⊥
IsFaulty text (refusal.Long name) = ⊥
IsFaulty text (refusal.Missing name) = ⊥

-- this is the first of the faults of labels and values, or no memory was left
abbrev pub IsFirst : List ValuesNo → ValuesNo → Type 0
IsFirst faults (refusal.Line n) = ⊥
IsFirst faults refusal.NoMemory = Unit {0}
IsFirst faults (refusal.Extra name) = BeginsWith faults (refusal.Extra name)
IsFirst faults (refusal.Twice name) = BeginsWith faults (refusal.Twice name)
IsFirst faults (refusal.Long name) = BeginsWith faults (refusal.Long name)
IsFirst faults (refusal.Missing name) = BeginsWith faults (refusal.Missing name)
