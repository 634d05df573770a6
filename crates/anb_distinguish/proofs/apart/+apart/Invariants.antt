-- Those so far are one each.
use Rattle.std.proofs.Common.{◌≡◌, ◌+◌, ◌*◌, map, take}
use Rattle.anb_term.specs.Tree.{tree_size, trees_size, trees_of}
use Rattle.anb_term.specs.View.{tree_of}
use Rattle.anb_distinguish.proofs.apart.+apart.Given as goal

abbrev pub decreases-variable_apart : goal.decreases-variable_apart
decreases-variable_apart l = 2 * tree_size (tree_of l.one.now)

abbrev pub decreases-first_apart : goal.decreases-first_apart
decreases-first_apart l = 2 * trees_size (trees_of (map tree_of l.ones.now)) + 1

abbrev pub invariant-first_apart-loop-i : goal.invariant-first_apart-loop-i
invariant-first_apart-loop-i l = take l.i (map tree_of l.ones) ≡ take l.i (map tree_of l.others)
