use Rattle.std.proofs.Common.{◌≡◌, ◌+◌, ◌*◌, map, take}
use Rattle.anb_term.specs.Tree.{trees_of, tree_size, trees_size}
use Rattle.anb_term.specs.View.{tree_of}
use Rattle.anb_openings.specs.Openings.{spared}
use Rattle.anb_openings.proofs.sparing.+spared.Given as goal

abbrev pub decreases-spared : goal.decreases-spared
decreases-spared l = 2 * tree_size (tree_of l.term.now)

abbrev pub decreases-all_spared : goal.decreases-all_spared
decreases-all_spared l = 2 * trees_size (trees_of (map tree_of l.terms.now)) + 1

abbrev pub invariant-all_spared-loop-term : goal.invariant-all_spared-loop-term
invariant-all_spared-loop-term l = map tree_of l.out.items ≡ map (λ t. spared l.spare (tree_of l.opened) (tree_of t)) (take l.term-index l.terms)
