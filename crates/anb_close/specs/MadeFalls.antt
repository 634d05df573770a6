-- Each operand is smaller than the composition.
use Rattle.std.specs.Prelude.{◌≤◌, List, [], ◌∷◌, map}
use Rattle.std.proofs.Common.{arith}
use denote.Param.Weighed.{most}
use Rattle.anb_close.specs.declared.made.Made.{Made}
use Rattle.anb_close.specs.declared.made.Made.TheVariants.{Entry, Build}
use Rattle.anb_close.specs.declared.made.Compositions.TheDeep.{deep-Made}
use Rattle.anb_term.specs.Tree.{trees_of, tree_size, trees_size}
use Rattle.anb_close.specs.MadeView.{made_tree}

deep_made : (t : Made) → deep-Made t ≤ tree_size (made_tree t)
deep_made (Entry n) = omega arith
deep_made (Build o ts) = omega arith

pub most_le_size : (ts : List Made) → most deep-Made ts ≤ trees_size (trees_of (map made_tree ts))
most_le_size [] = omega arith
most_le_size (t ∷ ts) = omega (arith, deep_made t, most_le_size ts)
