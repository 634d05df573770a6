-- What contracts see of a code that wasn't verified.
use Rattle.std.specs.Prelude.{ℕ, List}
use Rattle.anb_base.specs.declared.content.Suite.{Suite}
use Rattle.anb_format.specs.Formats.{FormatValue}
use Rattle.anb_code.specs.declared.raw.What.{What}

-- an instruction: the registers that it writes, what it does, a name, and the registers that it reads
pub record RawInstrValue : Type 0 where
  pub to : List ℕ
  pub what : What
  pub name : List ℕ
  pub args : List ℕ

pub record RawValue : Type 0 where
  pub protocol : List ℕ
  pub role : List ℕ
  pub suite : Suite
  pub formats : List FormatValue
  pub code : List RawInstrValue
