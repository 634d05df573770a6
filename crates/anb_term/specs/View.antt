-- The tree that a `Term` stands for, and back.
use Rattle.anb_term.specs.declared.term.Term.{Term}
use Rattle.anb_term.specs.declared.term.Term.TheVariants.{Atom, Node}
use Rattle.anb_term.specs.Tree.{Tree, leaf, node, trees_of, list_of}

abbrev pub tree_of : Term → Tree
tree_of (Atom n) = leaf n
tree_of (Node o ts) = node o (trees_of ts)

abbrev pub term_of : Tree → Term
term_of (leaf n) = Atom n
term_of (node o ts) = Node o (list_of ts)
