use Rattle.std.proofs.Common.{◌≡◌, ◌++◌, ◌+◌, ◌*◌, map, drop}
use Rattle.anb_term.specs.Tree.{trees_of, tree_size, trees_size}
use Rattle.anb_term.specs.View.{tree_of}
use Rattle.anb_notes.specs.Standing.{as_key_each}
use Rattle.anb_notes.proofs.standing.+keys.Given as goal

abbrev pub decreases-put_as_key : goal.decreases-put_as_key
decreases-put_as_key l = 2 * tree_size (tree_of l.t.now)

abbrev pub decreases-put_as_key_each : goal.decreases-put_as_key_each
decreases-put_as_key_each l = 2 * trees_size (trees_of (map tree_of l.terms.now)) + 1

abbrev pub invariant-put_as_key_each-loop-t : goal.invariant-put_as_key_each-loop-t
invariant-put_as_key_each-loop-t l = l.out.items ++ as_key_each (trees_of (map tree_of (drop l.t-index l.terms))) ≡ l.initial.out.items ++ as_key_each (trees_of (map tree_of l.terms))
