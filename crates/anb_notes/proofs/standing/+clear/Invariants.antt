use Rattle.std.proofs.Common.{◌≡◌, ◌++◌, ◌+◌, ◌*◌, map, drop}
use Rattle.anb_term.specs.Tree.{trees_of, tree_size, trees_size}
use Rattle.anb_term.specs.View.{tree_of}
use Rattle.anb_notes.specs.Standing.{in_clear_each}
use Rattle.anb_notes.proofs.standing.+clear.Given as goal

abbrev pub decreases-put_in_clear : goal.decreases-put_in_clear
decreases-put_in_clear l = 2 * tree_size (tree_of l.t.now)

abbrev pub decreases-put_in_clear_each : goal.decreases-put_in_clear_each
decreases-put_in_clear_each l = 2 * trees_size (trees_of (map tree_of l.terms.now)) + 1

abbrev pub invariant-put_in_clear_each-loop-t : goal.invariant-put_in_clear_each-loop-t
invariant-put_in_clear_each-loop-t l = l.out.items ++ in_clear_each (trees_of (map tree_of (drop l.t-index l.terms))) ≡ l.initial.out.items ++ in_clear_each (trees_of (map tree_of l.terms))
