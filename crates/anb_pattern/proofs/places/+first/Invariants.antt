use Rattle.std.proofs.Common.{◌≡◌, ◌+◌, ◌*◌, ◌++◌, length, map, drop}
use Rattle.anb_term.specs.Tree.{trees_of, tree_size, trees_size}
use Rattle.anb_term.specs.View.{tree_of}
use Rattle.anb_pattern.specs.Variables.{places_all, stand_for}
use Rattle.anb_pattern.proofs.places.+first.Given as goal

abbrev pub decreases-put_first : goal.decreases-put_first
decreases-put_first l = 2 * tree_size (tree_of l.pattern.now)

abbrev pub decreases-put_all_first : goal.decreases-put_all_first
decreases-put_all_first l = 2 * trees_size (trees_of (map tree_of l.patterns.now)) + 1

abbrev pub invariant-put_all_first-loop-i : goal.invariant-put_all_first-loop-i
invariant-put_all_first-loop-i l =
    map tree_of l.out.items ++ stand_for (l.names + length l.out.items) (places_all (trees_of (map tree_of (drop l.i l.patterns))) (trees_of (map tree_of (drop l.i l.narrated))))
    ≡ map tree_of l.initial.out.items ++ stand_for (l.names + length l.initial.out.items) (places_all (trees_of (map tree_of l.patterns)) (trees_of (map tree_of l.narrated)))
