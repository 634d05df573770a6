use Rattle.std.proofs.Common.{◌≡◌, ◌+◌, ◌*◌, ◌↔◌, map, drop}
use Rattle.anb_term.specs.Tree.{trees_of, tree_size, trees_size, AreFormed}
use Rattle.anb_term.specs.View.{tree_of}
use Rattle.anb_algebra.specs.ByteMeaning.{has_operator}
use Rattle.anb_partner.proofs.standing.+formed.Given as goal

abbrev pub decreases-is_formed : goal.decreases-is_formed
decreases-is_formed l = 2 * tree_size (tree_of l.t.now)

abbrev pub decreases-are_formed : goal.decreases-are_formed
decreases-are_formed l = 2 * trees_size (trees_of (map tree_of l.terms.now)) + 1

abbrev pub invariant-are_formed-loop-t : goal.invariant-are_formed-loop-t
invariant-are_formed-loop-t l =
    AreFormed (has_operator l.formats) (trees_of (map tree_of (drop l.t-index l.terms))) ↔ AreFormed (has_operator l.formats) (trees_of (map tree_of l.terms))
