use Rattle.std.proofs.Common.{◌≡◌, ◌-◌, drop, map}
use Rattle.anb_syntax.specs.Grammar.{trees_of}
use Rattle.anb_syntax.specs.Views.{tree_of}
use Rattle.anb_protocol.specs.Checks.{trees_nodes}
use Rattle.anb_mistakes.proofs.beyond.+nodes.Given as goal

abbrev pub invariant-left_of_all-loop-tree : goal.invariant-left_of_all-loop-tree
invariant-left_of_all-loop-tree l = l.left - trees_nodes (trees_of (map tree_of (drop l.tree-index l.trees.items))) ≡ l.number - trees_nodes (trees_of (map tree_of l.trees.items))
