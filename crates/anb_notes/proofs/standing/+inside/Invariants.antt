use Rattle.std.proofs.Common.{◌≡◌, ◌++◌, ◌+◌, ◌*◌, map, drop}
use Rattle.anb_term.specs.Tree.{trees_of, tree_size, trees_size}
use Rattle.anb_term.specs.View.{tree_of}
use Rattle.anb_notes.specs.Standing.{inside_from}
use Rattle.anb_notes.proofs.standing.+inside.Given as goal

abbrev pub decreases-put_inside : goal.decreases-put_inside
decreases-put_inside l = 3 * tree_size (tree_of l.t.now)

abbrev pub decreases-put_inside_if : goal.decreases-put_inside_if
decreases-put_inside_if l = 3 * tree_size (tree_of l.t.now) + 1

abbrev pub decreases-put_inside_from : goal.decreases-put_inside_from
decreases-put_inside_from l = 3 * trees_size (trees_of (map tree_of l.terms.now)) + 2

abbrev pub invariant-put_inside_from-loop-i : goal.invariant-put_inside_from-loop-i
invariant-put_inside_from-loop-i l = l.out.items ++ inside_from l.first l.i (trees_of (map tree_of (drop l.i l.terms))) ≡ l.initial.out.items ++ inside_from l.first 0 (trees_of (map tree_of l.terms))
