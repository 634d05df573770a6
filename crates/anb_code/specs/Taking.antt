-- The initial values that some instructions take, and the nonces that they draw.
use Rattle.std.specs.Prelude.{ℕ, List, count_by, filter_map, Bool, true, false, Option, Some, None}
use Rattle.anb_code.specs.declared.instr.Instr.{Instr}
use Rattle.anb_code.specs.declared.instr.Instr.TheVariants.{Take, Fresh}

abbrev pub taken_text : Instr → Option (List ℕ)
taken_text (Take text) = Some text
taken_text instr = None

-- the label texts of the takes, in order
abbrev pub take_texts : List Instr → List (List ℕ)
take_texts instrs = filter_map taken_text instrs

abbrev pub is_fresh : Instr → Bool
is_fresh Fresh = true
is_fresh instr = false

abbrev pub count_fresh : List Instr → ℕ
count_fresh instrs = count_by is_fresh instrs

abbrev pub is_taking : Instr → Bool
is_taking (Take text) = true
is_taking instr = false
