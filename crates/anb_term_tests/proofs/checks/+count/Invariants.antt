use Rattle.std.proofs.Common.{◌≡◌, ◌+◌, ◌*◌, map, take, true}
use Rattle.anb_term.specs.Tree.{nodes, trees_of, AreFormed}
use Rattle.anb_term.specs.View.{tree_of}
use Rattle.anb_term_tests.proofs.checks.+count.Given as goal

abbrev pub decreases-node_count : goal.decreases-node_count
decreases-node_count l = 2 * l.depth

abbrev pub decreases-node_counts : goal.decreases-node_counts
decreases-node_counts l = 2 * l.depth + 1

abbrev pub invariant-node_counts-loop-t : goal.invariant-node_counts-loop-t
invariant-node_counts-loop-t l =
    let done = map tree_of (take l.t-index l.ts) in
    record {
      formed : AreFormed (λ o. true) (trees_of done);
      size : l.sum ≡ nodes done;
    }
