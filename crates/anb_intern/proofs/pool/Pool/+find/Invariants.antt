use Rattle.std.proofs.Common.{◌+◌, ◌*◌, map}
use Rattle.anb_term.specs.Tree.{tree_size, trees_size, trees_of}
use Rattle.anb_term.specs.View.{tree_of}
use Rattle.anb_intern.proofs.Putting.{IsFinding}
use Rattle.anb_intern.proofs.pool.Pool.+find.Given as goal

abbrev pub decreases-find_term : goal.decreases-find_term
decreases-find_term l = 2 * tree_size (tree_of l.t.now)

abbrev pub decreases-find_all : goal.decreases-find_all
decreases-find_all l = 2 * trees_size (trees_of (map tree_of l.ts.now)) + 1

abbrev pub invariant-find_all-loop-t : goal.invariant-find_all-loop-t
invariant-find_all-loop-t l = IsFinding l.self l.ids.items l.ts l.t-index
