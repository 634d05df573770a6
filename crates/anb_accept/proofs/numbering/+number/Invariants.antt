use Rattle.std.proofs.Common.{◌+◌, ◌*◌, map, take}
use Rattle.anb_term.specs.Tree.{trees_of, tree_size, trees_size}
use Rattle.anb_term.specs.View.{tree_of}
use Rattle.anb_accept.specs.Renaming.{AllGotNumbers}
use Rattle.anb_accept.proofs.numbering.+number.Given as goal

abbrev pub decreases-number : goal.decreases-number
decreases-number l = 2 * tree_size (tree_of l.t.now)

abbrev pub decreases-number_all : goal.decreases-number_all
decreases-number_all l = 2 * trees_size (trees_of (map tree_of l.ts.now)) + 1

abbrev pub invariant-number_all-loop-t : goal.invariant-number_all-loop-t
invariant-number_all-loop-t l = AllGotNumbers l.names l.initial.pool l.pool (trees_of (map tree_of (take l.t-index l.ts))) (trees_of (map tree_of l.out.items))
