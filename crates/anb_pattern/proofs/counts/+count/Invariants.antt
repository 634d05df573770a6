use Rattle.std.proofs.Common.{◌+◌, ◌*◌, map, take}
use Rattle.anb_term.specs.Tree.{trees_of, tree_size, trees_size}
use Rattle.anb_term.specs.View.{tree_of}
use Rattle.anb_pattern.specs.Variables.{count_in_all}
use Rattle.anb_pattern.specs.Counts.{IsCounted}
use Rattle.anb_pattern.proofs.counts.+count.Given as goal

abbrev pub decreases-count : goal.decreases-count
decreases-count l = 2 * tree_size (tree_of l.t.now)

abbrev pub decreases-count_all : goal.decreases-count_all
decreases-count_all l = 2 * trees_size (trees_of (map tree_of l.ts.now)) + 1

abbrev pub invariant-count_all-loop-t : goal.invariant-count_all-loop-t
invariant-count_all-loop-t l = IsCounted l.names (λ v. count_in_all v (trees_of (map tree_of (take l.t-index l.ts)))) l.initial.counts.items l.counts.items
