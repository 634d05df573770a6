use Rattle.std.proofs.Common.{◌+◌, ◌*◌, map}
use Rattle.anb_term.specs.Tree.{tree_size, trees_size, trees_of}
use Rattle.anb_term.specs.View.{tree_of}
use Rattle.anb_intern.proofs.Putting.{IsPutting}
use Rattle.anb_intern.proofs.pool.Pool.+put.Given as goal

abbrev pub decreases-put_nodes : goal.decreases-put_nodes
decreases-put_nodes l = 2 * tree_size (tree_of l.t.now)

abbrev pub decreases-put_all : goal.decreases-put_all
decreases-put_all l = 2 * trees_size (trees_of (map tree_of l.ts.now)) + 1

abbrev pub invariant-put_all-loop-t : goal.invariant-put_all-loop-t
invariant-put_all-loop-t l = IsPutting l.initial.self l.self l.ids.items l.ts l.t-index
