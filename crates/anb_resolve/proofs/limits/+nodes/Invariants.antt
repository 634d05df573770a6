use Rattle.std.proofs.Common.{◌≡◌, ◌+◌, map, drop}
use Rattle.anb_syntax.specs.Grammar.{trees_of}
use Rattle.anb_syntax.specs.Views.{tree_of}
use Rattle.anb_protocol.specs.Checks.{trees_nodes}
use Rattle.anb_resolve.proofs.limits.+nodes.Given as goal

abbrev pub invariant-trees_nodes-loop-tree : goal.invariant-trees_nodes-loop-tree
invariant-trees_nodes-loop-tree l = l.count + trees_nodes (trees_of (map tree_of (drop l.tree-index l.trees.items))) ≡ trees_nodes (trees_of (map tree_of l.trees.items))
