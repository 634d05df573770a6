use Rattle.anb_term.specs.Tree.{tree_size}
use Rattle.anb_term.specs.View.{tree_of}
use Rattle.anb_trace.proofs.differences.+put_place.Given as goal

abbrev pub decreases-put_place : goal.decreases-put_place
decreases-put_place l = tree_size (tree_of l.term.now)
