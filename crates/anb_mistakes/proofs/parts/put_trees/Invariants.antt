use Rattle.std.proofs.Common.{◌≡◌, ◌++◌, map, drop}
use Rattle.anb_syntax.specs.Grammar.{trees_of, list_of}
use Rattle.anb_syntax.specs.Views.{tree_of}
use Rattle.anb_protocol.specs.Views.{pointed}
use Rattle.anb_mistakes.proofs.parts.put_trees.Given as goal

abbrev pub invariant-loop-tree : goal.invariant-loop-tree
invariant-loop-tree l = map tree_of (pointed l.out.items) ++ list_of (trees_of (map tree_of (drop l.tree-index l.trees.items))) ≡ map tree_of (pointed l.initial.out.items) ++ list_of (trees_of (map tree_of l.trees.items))
