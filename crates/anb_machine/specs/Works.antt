-- What is known of the formats that an instruction names.
use Rattle.std.specs.Prelude.{◌≤◌, ◌<◌, List, length}
use Rattle.anb_format.specs.Formats.{FormatValue, field_count, pieces_at}
use Rattle.anb_code.specs.declared.instr.Instr.{Instr}
use Rattle.anb_code.specs.declared.instr.Instr.TheVariants.{Build, Parse}

-- a format that is named is there, and has at most 32 fields
abbrev pub HasFewFields : List FormatValue → Instr → Type 0
HasFewFields formats (Build f rs) = length rs ≤ 32
HasFewFields formats (Parse f r) = (f < length formats) × (field_count (pieces_at formats f) ≤ 32)
HasFewFields formats instr = Unit {0}
