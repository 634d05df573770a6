use Rattle.std.proofs.Common.{◌≡◌, ◌++◌, ◌+◌, ◌*◌, map, drop}
use Rattle.anb_term.specs.Tree.{trees_of, tree_size, trees_size}
use Rattle.anb_term.specs.View.{tree_of}
use Rattle.anb_stranger.specs.Reaching.{variables}
use Rattle.anb_stranger.proofs.beginning.+variables.Given as goal

abbrev pub decreases-put_variables : goal.decreases-put_variables
decreases-put_variables l = 2 * tree_size (tree_of l.t.now)

abbrev pub decreases-put_all_variables : goal.decreases-put_all_variables
decreases-put_all_variables l = 2 * trees_size (trees_of (map tree_of l.terms.now)) + 1

abbrev pub invariant-put_all_variables-loop-t : goal.invariant-put_all_variables-loop-t
invariant-put_all_variables-loop-t l = l.out.items ++ variables l.names (map tree_of (drop l.t-index l.terms)) ≡ l.initial.out.items ++ variables l.names (map tree_of l.terms)
