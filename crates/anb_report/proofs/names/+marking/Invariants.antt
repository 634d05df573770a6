use Rattle.std.proofs.Common.{◌≡◌, ◌+◌, ◌*◌, map, drop}
use Rattle.anb_term.specs.Tree.{trees_of, tree_size, trees_size}
use Rattle.anb_term.specs.View.{tree_of}
use Rattle.anb_protocol.specs.Seen.{marked}
use Rattle.anb_protocol.specs.Texts.{atoms_in_all}
use Rattle.anb_report.proofs.names.+marking.Given as goal

abbrev pub decreases-mark_term : goal.decreases-mark_term
decreases-mark_term l = 2 * tree_size (tree_of l.term.now)

abbrev pub decreases-mark_terms : goal.decreases-mark_terms
decreases-mark_terms l = 2 * trees_size (trees_of (map tree_of l.terms.now)) + 1

abbrev pub invariant-mark_terms-loop-term : goal.invariant-mark_terms-loop-term
invariant-mark_terms-loop-term l = marked l.marks.items (atoms_in_all (trees_of (map tree_of (drop l.term-index l.terms)))) ≡ marked l.initial.marks.items (atoms_in_all (trees_of (map tree_of l.terms)))
