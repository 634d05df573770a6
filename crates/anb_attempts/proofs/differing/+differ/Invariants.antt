use Rattle.std.proofs.Common.{◌+◌, ◌*◌, map}
use Rattle.anb_term.specs.Tree.{trees_of, tree_size, trees_size}
use Rattle.anb_term.specs.View.{tree_of}
use Rattle.anb_attempts.proofs.differing.+differ.Given as goal

abbrev pub decreases-differ : goal.decreases-differ
decreases-differ l = 2 * tree_size (tree_of l.one.now)

abbrev pub decreases-some_differ : goal.decreases-some_differ
decreases-some_differ l = 2 * trees_size (trees_of (map tree_of l.ones.now)) + 1
