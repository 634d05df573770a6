use Rattle.std.proofs.Common.{◌+◌, ◌*◌, map}
use Rattle.anb_term.specs.Tree.{trees_of, tree_size, trees_size}
use Rattle.anb_term.specs.View.{tree_of}
use Rattle.anb_verdict.proofs.finding.+find.Given as goal

abbrev pub decreases-way_out : goal.decreases-way_out
decreases-way_out l = 2 * tree_size (tree_of l.t.now)

abbrev pub decreases-way_out_of : goal.decreases-way_out_of
decreases-way_out_of l = 2 * trees_size (trees_of (map tree_of l.operands.now)) + 1
