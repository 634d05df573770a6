use Rattle.std.proofs.Common.{◌≡◌, ◌+◌, ◌*◌, map, take}
use Rattle.anb_term.specs.Tree.{trees_of, tree_size, trees_size}
use Rattle.anb_term.specs.View.{tree_of}
use Rattle.anb_close.specs.MadeView.{made_tree}
use Rattle.anb_accept.specs.Equations.{over_entries}
use Rattle.anb_accept.proofs.equation.+composed.Given as goal

abbrev pub decreases-composed : goal.decreases-composed
decreases-composed l = 2 * tree_size (made_tree l.made.now)

abbrev pub decreases-composed_all : goal.decreases-composed_all
decreases-composed_all l = 2 * trees_size (trees_of (map made_tree l.all.now)) + 1

abbrev pub invariant-composed_all-loop-made : goal.invariant-composed_all-loop-made
invariant-composed_all-loop-made l = map tree_of l.terms.items ≡ map (λ m. over_entries l.names (made_tree m)) (take l.made-index l.all)
