use Rattle.std.proofs.Common.{◌≡◌, ◌++◌, ◌+◌, ◌*◌, map, drop}
use Rattle.anb_term.specs.Tree.{trees_of, tree_size, trees_size}
use Rattle.anb_term.specs.View.{tree_of}
use Rattle.anb_report.specs.Remarks.{formats_in_all}
use Rattle.anb_report.proofs.remarks.+formats.Given as goal

abbrev pub decreases-put_formats : goal.decreases-put_formats
decreases-put_formats l = 2 * tree_size (tree_of l.term.now)

abbrev pub decreases-put_all_formats : goal.decreases-put_all_formats
decreases-put_all_formats l = 2 * trees_size (trees_of (map tree_of l.terms.now)) + 1

abbrev pub invariant-put_all_formats-loop-term : goal.invariant-put_all_formats-loop-term
invariant-put_all_formats-loop-term l = l.out.items ++ formats_in_all (trees_of (map tree_of (drop l.term-index l.terms))) ≡ l.initial.out.items ++ formats_in_all (trees_of (map tree_of l.terms))
