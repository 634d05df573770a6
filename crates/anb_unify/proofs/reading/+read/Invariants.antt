use Rattle.std.proofs.Common.{◌≡◌, ◌+◌, ◌*◌, map, take}
use Rattle.anb_term.specs.Tree.{Tree, trees_of, tree_size, trees_size}
use Rattle.anb_term.specs.View.{tree_of}
use Rattle.anb_intern.specs.Nodes.{operands_at}
use Rattle.anb_unify.specs.Reading.{read_all, Settles}
use Rattle.anb_unify.proofs.reading.+read.Given as goal

abbrev pub decreases-pattern : goal.decreases-pattern
decreases-pattern l = 2 * tree_size (tree_of l.narrated.now)

abbrev pub decreases-patterns : goal.decreases-patterns
decreases-patterns l = 2 * trees_size (trees_of (map tree_of l.narrated.now)) + 1

abbrev pub invariant-patterns-loop-i : goal.invariant-patterns-loop-i
invariant-patterns-loop-i l = (rep : Tree → Tree) → Settles l.names l.pool l.roots rep
    → trees_of (map tree_of l.out.items) ≡ read_all rep (trees_of (take l.i (operands_at l.pool l.ids))) (trees_of (map tree_of (take l.i l.narrated)))
