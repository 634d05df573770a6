-- What contracts see of a code.
use Rattle.std.specs.Prelude.{ℕ, List}
use Rattle.anb_base.specs.declared.content.Suite.{Suite}
use Rattle.anb_format.specs.Formats.{FormatValue}
use Rattle.anb_code.specs.declared.instr.Instr.{Instr}

-- the names of its protocol and its role, the suite, the formats, and the instructions in order
pub record CodeValue : Type 0 where
  pub protocol : List ℕ
  pub role : List ℕ
  pub suite : Suite
  pub formats : List FormatValue
  pub instrs : List Instr
