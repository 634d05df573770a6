use Rattle.std.proofs.Common.{◌+◌, ◌*◌, map, take}
use Rattle.anb_term.specs.Tree.{trees_of, tree_size, trees_size}
use Rattle.anb_term.specs.View.{tree_of}
use Rattle.anb_close.specs.Entries.{labels_of}
use Rattle.anb_protocol.specs.WellFormed.{IsProtocol}
use Rattle.anb_reason.specs.Shut.{OccursIn}
use Rattle.anb_reason.specs.Found.{Finds}
use Rattle.anb_reason.proofs.found.+subterms.Given as goal

abbrev pub decreases-find_subterms : goal.decreases-find_subterms
decreases-find_subterms l = 2 * tree_size (tree_of l.term.now)

abbrev pub decreases-find_in_all : goal.decreases-find_in_all
decreases-find_in_all l = 2 * trees_size (trees_of (map tree_of l.terms.now)) + 1

abbrev pub invariant-find_in_all-loop-term : goal.invariant-find_in_all-loop-term
invariant-find_in_all-loop-term l = IsProtocol l.p → Finds l.p (labels_of l.closure) (λ u. OccursIn u (trees_of (map tree_of (take l.term-index l.terms)))) l.initial.found l.found
