use Rattle.std.proofs.Common.{◌≡◌, ◌+◌, ◌*◌, map, drop}
use Rattle.anb_term.specs.Tree.{trees_of, tree_size, trees_size}
use Rattle.anb_term.specs.View.{tree_of}
use Rattle.anb_accept.proofs.sizes.+left.Given as goal

abbrev pub decreases-left_after : goal.decreases-left_after
decreases-left_after l = 2 * tree_size (tree_of l.t.now)

abbrev pub decreases-left_after_all : goal.decreases-left_after_all
decreases-left_after_all l = 2 * trees_size (trees_of (map tree_of l.terms.now)) + 1

abbrev pub invariant-left_after_all-loop-t : goal.invariant-left_after_all-loop-t
invariant-left_after_all-loop-t l = l.left + trees_size (trees_of (map tree_of (drop l.t-index l.terms))) ≡ l.rest + trees_size (trees_of (map tree_of l.terms))
