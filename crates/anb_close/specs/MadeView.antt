-- What a composition stands for.
use Rattle.anb_term.specs.Tree.{Tree, leaf, node, trees_of}
use Rattle.anb_close.specs.declared.made.Made.{Made}
use Rattle.anb_close.specs.declared.made.Made.TheVariants.{Entry, Build}

abbrev pub made_tree : Made → Tree
made_tree (Entry n) = leaf n
made_tree (Build o ms) = node o (trees_of ms)
