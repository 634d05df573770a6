use Rattle.std.proofs.Common.{◌≡◌, ◌++◌, map, drop}
use Rattle.anb_term.specs.Tree as term
use Rattle.anb_term.specs.View.{tree_of as term_tree}
use Rattle.anb_syntax.specs.Grammar.{trees_of}
use Rattle.anb_syntax.specs.Views.{tree_of}
use Rattle.anb_protocol.specs.Protocols.{resolved_all}
use Rattle.anb_resolve.proofs.terms.+resolve.Given as goal

abbrev pub invariant-resolved_all-loop-tree : goal.invariant-resolved_all-loop-tree
invariant-resolved_all-loop-tree l = map term_tree l.terms.items ++ term.list_of (resolved_all l.atoms l.formats (trees_of (map tree_of (drop l.tree-index l.trees.items)))) ≡ term.list_of (resolved_all l.atoms l.formats (trees_of (map tree_of l.trees.items)))
