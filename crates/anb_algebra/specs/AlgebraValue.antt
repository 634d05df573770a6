-- What contracts see of the algebra of byte strings.
use Rattle.std.specs.Prelude.{List}
use Rattle.anb_base.specs.declared.content.Suite.{Suite}
use Rattle.anb_format.specs.Formats.{FormatValue}

pub record AlgebraValue : Type 0 where
  pub formats : List FormatValue
  pub suite : Suite
