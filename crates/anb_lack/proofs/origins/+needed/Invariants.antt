use Rattle.std.proofs.Common.{◌≤◌, ◌↔◌, ◌+◌, ◌*◌, ℕ, map, take}
use Rattle.anb_term.specs.Tree.{tree_size, trees_size, trees_of}
use Rattle.anb_close.specs.MadeView.{made_tree}
use Rattle.anb_lack.specs.Held.{AreWithin}
use Rattle.anb_lack.proofs.origins.+needed.Given as goal

abbrev pub decreases-needed : goal.decreases-needed
decreases-needed l = 2 * tree_size (made_tree l.made.now)

abbrev pub decreases-needed_by_all : goal.decreases-needed_by_all
decreases-needed_by_all l = 2 * trees_size (trees_of l.all.now) + 1

abbrev pub invariant-needed_by_all-loop-made : goal.invariant-needed_by_all-loop-made
invariant-needed_by_all-loop-made l = (count : ℕ) → (l.most ≤ count) ↔ AreWithin count (trees_of (map made_tree (take l.made-index l.made-items)))
