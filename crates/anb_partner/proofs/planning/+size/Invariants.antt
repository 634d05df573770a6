use Rattle.std.proofs.Common.{◌≡◌, ◌+◌, ◌*◌, map, drop}
use Rattle.anb_term.specs.Tree.{trees_of, tree_size, trees_size}
use Rattle.anb_term.specs.View.{tree_of}
use Rattle.anb_partner.proofs.planning.+size.Given as goal

abbrev pub decreases-size : goal.decreases-size
decreases-size l = 2 * tree_size (tree_of l.t.now)

abbrev pub decreases-size_of_all : goal.decreases-size_of_all
decreases-size_of_all l = 2 * trees_size (trees_of (map tree_of l.terms.now)) + 1

abbrev pub invariant-size_of_all-loop-t : goal.invariant-size_of_all-loop-t
invariant-size_of_all-loop-t l = l.count + trees_size (trees_of (map tree_of (drop l.t-index l.terms))) ≡ trees_size (trees_of (map tree_of l.terms))
