-- Pools that grow.
use Rattle.std.specs.Prelude.{◌≡◌, List, ◌++◌}
use Rattle.anb_term.specs.Tree.{Tree}

-- more terms came
pub record HasGrown (old new : List Tree) : Type 0 where
  pub more : List Tree
  pub is : new ≡ old ++ more
