-- For proofs alone: which registers are collected.
use Rattle.std.specs.Prelude.{ℕ, List, Bool, true, false}
use Rattle.anb_code.specs.declared.instr.Instr.{Instr}
use Rattle.anb_report.specs.declared.registers.Use.{Use}
use Rattle.anb_report.specs.declared.registers.Use.TheVariants.{Key, Opened, Checked}
use Rattle.anb_report.specs.Looking.{brings, builds, checked_by, keys_of, opened_by}

abbrev pub used : Use → Instr → List ℕ
used Key = keys_of
used Opened = opened_by
used Checked = checked_by

abbrev pub writes : Bool → Instr → Bool
writes true = builds
writes false = brings
