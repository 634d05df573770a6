use Rattle.std.proofs.Common.{◌+◌, ◌*◌, map}
use Rattle.anb_term.specs.Tree.{tree_size, trees_of, trees_size}
use Rattle.anb_term.specs.View.{tree_of}
use Rattle.anb_attempts.proofs.inner.+inner.Given as goal

abbrev pub decreases-inner_of : goal.decreases-inner_of
decreases-inner_of l = 2 * tree_size (tree_of l.t.now)

abbrev pub decreases-inner_from : goal.decreases-inner_from
decreases-inner_from l = 2 * trees_size (trees_of (map tree_of l.operands.now)) + 1
