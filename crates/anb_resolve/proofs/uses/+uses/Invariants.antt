use Rattle.std.proofs.Common.{◌≡◌, ◌++◌, map, drop}
use Rattle.anb_syntax.specs.Grammar.{trees_of}
use Rattle.anb_syntax.specs.Views.{tree_of}
use Rattle.anb_protocol.specs.Names.{trees_uses}
use Rattle.anb_resolve.specs.Uses.{use_of}
use Rattle.anb_resolve.proofs.uses.+uses.Given as goal

abbrev pub invariant-put_trees_uses-loop-tree : goal.invariant-put_trees_uses-loop-tree
invariant-put_trees_uses-loop-tree l = map use_of l.out.items ++ trees_uses (trees_of (map tree_of (drop l.tree-index l.trees.items))) ≡ map use_of l.initial.out.items ++ trees_uses (trees_of (map tree_of l.trees.items))
