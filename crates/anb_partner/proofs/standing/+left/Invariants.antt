use Rattle.std.proofs.Common.{◌≡◌, ◌+◌, ◌*◌, ◌≤◌, map, drop}
use Rattle.anb_term.specs.Tree.{trees_of, tree_size, trees_size}
use Rattle.anb_term.specs.View.{tree_of}
use Rattle.anb_partner.proofs.standing.+left.Given as goal

abbrev pub decreases-left_of : goal.decreases-left_of
decreases-left_of l = 2 * tree_size (tree_of l.t.now)

abbrev pub decreases-left_of_all : goal.decreases-left_of_all
decreases-left_of_all l = 2 * trees_size (trees_of (map tree_of l.terms.now)) + 1

abbrev pub invariant-left_of_all-loop-t : goal.invariant-left_of_all-loop-t
invariant-left_of_all-loop-t l =
    l.nodes + trees_size (trees_of (map tree_of (drop l.t-index l.terms))) ≡ l.left + trees_size (trees_of (map tree_of l.terms))
